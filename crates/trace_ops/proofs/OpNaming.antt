-- The name of an operation is read as it, and nothing else is.
use Rattle.std.proofs.Common.{◌≡◌, ℕ, suc, ◌+◌, ◌<◌, ◌≤◌, Bool, true, false, Option, Some, None, List, [], ◌∷◌, length, get_or, drop, refl, ap, sym, subst, ◌∙◌, if◌then◌else◌, add-one, drop-cons}
use Rattle.std.proofs.lemmas.List.{drop_all}
use Rattle.std.specs.Str.{bytes_eq}
use Rattle.std.proofs.lemmas.Slice.Eq.{bytes_eq-Decides}
use Rattle.trace_ops.specs.declared.code.OpCode.{OpCode}
use Rattle.trace_ops.specs.declared.code.OpCode.TheVariants as code
use Rattle.trace_ops.specs.OpNames.{name_of, every_code, among, code_of, NamesAreApart}

some_same : (c d : OpCode) → Some c ≡ Some d → c ≡ d
some_same c d e = cc

found : (b : Bool) (word : List ℕ) (c d : OpCode) (other : Option OpCode) → bytes_eq word (name_of c) ≡ b → (other ≡ Some d → word ≡ name_of d) → (if b then Some c else other) ≡ Some d → word ≡ name_of d
found true word c d other h rest e = (bytes_eq-Decides word (name_of c)).0 h ∙ ap name_of (some_same c d e)
found false word c d other h rest e = rest e

among_named : (cs : List OpCode) (word : List ℕ) (d : OpCode) → among cs word ≡ Some d → word ≡ name_of d
unfolding among
among_named [] word d e = cc
among_named (c ∷ cs) word d e = found (bytes_eq word (name_of c)) word c d (among cs word) refl (among_named cs word d) e

-- one operation less to look through
pub found_more : (cs : List OpCode) (word : List ℕ) (i : ℕ) (c : OpCode) (r : Option OpCode) → i < length cs → bytes_eq word (name_of (get_or cs i c)) ≡ false → among (drop i cs) word ≡ r → among (drop (i + 1) cs) word ≡ r
unfolding among
found_more cs word i c r within other h =
    let front : drop i cs ≡ get_or cs i c ∷ drop (suc i) cs = drop-cons cs i c within in
    ap (λ j. among (drop j cs) word) (add-one i)
    ∙ ap (λ (b : Bool). if b then Some (get_or cs i c) else among (drop (suc i) cs) word) (sym other)
    ∙ ap (λ (rest : List OpCode). among rest word) (sym front)
    ∙ h

-- the operation that is looked for
pub found_here : (cs : List OpCode) (word : List ℕ) (i : ℕ) (c : OpCode) (r : Option OpCode) → i < length cs → bytes_eq word (name_of (get_or cs i c)) ≡ true → among (drop i cs) word ≡ r → Some (get_or cs i c) ≡ r
unfolding among
found_here cs word i c r within same h =
    let front : drop i cs ≡ get_or cs i c ∷ drop (suc i) cs = drop-cons cs i c within in
    ap (λ (b : Bool). if b then Some (get_or cs i c) else among (drop (suc i) cs) word) (sym same)
    ∙ ap (λ (rest : List OpCode). among rest word) (sym front)
    ∙ h

-- none is left
pub found_none : (cs : List OpCode) (word : List ℕ) (i : ℕ) (r : Option OpCode) → length cs ≤ i → among (drop i cs) word ≡ r → None ≡ r
unfolding among
found_none cs word i r past h = ap (λ (rest : List OpCode). among rest word) (sym (drop_all i cs past)) ∙ h

code_named : (word : List ℕ) (d : OpCode) → code_of word ≡ Some d → word ≡ name_of d
unfolding code_of
code_named word d e = among_named every_code word d e

pub code_again : (c : OpCode) → code_of (name_of c) ≡ Some c
unfolding code_of among
code_again code.IntAdd = refl
code_again code.IntSub = refl
code_again code.IntMul = refl
code_again code.IntAnd = refl
code_again code.IntOr = refl
code_again code.IntXor = refl
code_again code.IntLshift = refl
code_again code.IntRshift = refl
code_again code.UintRshift = refl
code_again code.IntLt = refl
code_again code.IntLe = refl
code_again code.IntEq = refl
code_again code.IntNe = refl
code_again code.IntGt = refl
code_again code.IntGe = refl
code_again code.UintLt = refl
code_again code.UintLe = refl
code_again code.UintGt = refl
code_again code.UintGe = refl
code_again code.IntIsZero = refl
code_again code.IntIsTrue = refl
code_again code.IntNeg = refl
code_again code.IntInvert = refl
code_again code.IntForceGeZero = refl
code_again code.SameAsI = refl
code_again code.SameAsR = refl
code_again code.PtrEq = refl
code_again code.PtrNe = refl
code_again code.IntAddOvf = refl
code_again code.IntSubOvf = refl
code_again code.IntMulOvf = refl
code_again code.GetfieldGcI = refl
code_again code.GetfieldGcR = refl
code_again code.SetfieldGc = refl
code_again code.GetarrayitemGcI = refl
code_again code.GetarrayitemGcR = refl
code_again code.SetarrayitemGc = refl
code_again code.ArraylenGc = refl
code_again code.New = refl
code_again code.NewWithVtable = refl
code_again code.NewArrayClear = refl
code_again code.CallI = refl
code_again code.CallR = refl
code_again code.CallN = refl
code_again code.GuardTrue = refl
code_again code.GuardFalse = refl
code_again code.GuardValue = refl
code_again code.GuardNonnull = refl
code_again code.GuardIsnull = refl
code_again code.GuardClass = refl
code_again code.GuardNonnullClass = refl
code_again code.GuardNoOverflow = refl
code_again code.GuardOverflow = refl
code_again code.GuardNoException = refl
code_again code.Jump = refl
code_again code.Finish = refl

pub names_apart : NamesAreApart
names_apart word c = (code_named word c, λ e. subst (λ (w : List ℕ). code_of w ≡ Some c) (sym e) (code_again c))
