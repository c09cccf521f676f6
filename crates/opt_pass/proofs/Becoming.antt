-- What recorded arguments become: arguments of the piece, of their kinds, which fit where they fitted.
use Rattle.std.proofs.Common.{◌≡◌, ℕ, ◌+◌, true, false, List, [], ◌∷◌, ◌++◌, Option, Some, None, length, map, slice_get, refl, sym, ap, ◌∙◌, subst}
use Rattle.std.specs.Prelude.{IsSome}
use Rattle.std.specs.Option.{IsSomeAnd}
use Rattle.std.specs.List.{AllByRecursion, AllZip, flat_map}
use Rattle.trace_ops.specs.declared.trace.Kind.{Kind}
use Rattle.trace_ops.specs.declared.trace.Kind.TheVariants as kind
use Rattle.trace_ops.specs.declared.trace.BoxId.{BoxId}
use Rattle.trace_ops.specs.declared.trace.Arg.{Arg}
use Rattle.trace_ops.specs.declared.trace.Arg.TheVariants as arg
use Rattle.trace_ops.specs.declared.trace.Descr.{Descr}
use Rattle.trace_ops.specs.declared.trace.Descr.TheVariants as descr
use Rattle.trace_ops.specs.declared.table.Table.{Table}
use Rattle.trace_ops.specs.declared.table.CallRow.{CallRow}
use Rattle.trace_ops.specs.declared.facts.Want.{Want}
use Rattle.trace_ops.specs.declared.facts.Want.TheVariants as want
use Rattle.trace_ops.specs.declared.facts.Takes.{Takes}
use Rattle.trace_ops.specs.declared.facts.Takes.TheVariants as takes
use Rattle.trace_ops.specs.declared.piece.Val.{Val}
use Rattle.trace_ops.specs.declared.piece.Val.TheVariants.{Known, Virtual}
use Rattle.trace_ops.specs.Fits.{kind_stored, IsOfKind, IsClass, IsWanted, AreCompared, AreCalled, FitArgs}
use Rattle.trace_ops.specs.Kinds.{kind_of_arg, NamesArg}
use Rattle.trace_ops.specs.Parts.{boxes_of_arg}
use Rattle.lists.proofs.Eaches.{each_weaker, each_append, each_parts}
use Rattle.lists.proofs.Appends.{get_before}
use Rattle.opt_pass.specs.Tables.{Names, name_in, known_or, followed, raw, meant}
use Rattle.opt_pass.specs.Forming.{IsDefined, IsArg, IsNamed, HasNames}

-- More boxes are defined

pub defined_more : (xs ys bs : List BoxId) → AllByRecursion (IsDefined xs) bs → AllByRecursion (IsDefined (xs ++ ys)) bs
defined_more xs ys bs h = each_weaker (IsDefined xs) (IsDefined (xs ++ ys)) (λ b e. get_before xs ys b.number b e) bs h

pub arg_more : (t : Table) (xs ys : List BoxId) (k : Option Kind) (a : Arg) → IsArg t xs k a → IsArg t (xs ++ ys) k a
arg_more t xs ys k a h = record { kind = h.kind; named = h.named; boxes = defined_more xs ys (boxes_of_arg a) h.boxes }

pub named_more : (t : Table) (xs ys : List BoxId) (b : BoxId) (x : Val) → IsNamed t xs b x → IsNamed t (xs ++ ys) b x
named_more t xs ys b (Known a) h = arg_more t xs ys (Some b.kind) a h
named_more t xs ys b (Virtual n) h = h

-- One argument

false_true : false ≡ true → ⊥
false_true e = cc

of_kind : (k : Option Kind) (a b : Arg) → kind_of_arg b ≡ kind_of_arg a → IsOfKind k a → IsOfKind k b
of_kind (Some k) a b e h = e ∙ h
of_kind None a b e h = h

module _ (t : Table) (defined : List BoxId) (names forward : Names)
    (named : (b : BoxId) (x : Val) → name_in names b ≡ Some x → IsNamed t defined b x)
    (standing : (b : BoxId) (x : Val) → name_in forward b ≡ Some x → IsNamed t [] b x) where
  stands_in : (k : Option Kind) (d : BoxId) → IsArg t defined k (arg.Of d) → (y : Option Val) → name_in forward d ≡ y → IsArg t defined k (known_or (arg.Of d) y)
  stands_in k d h None e = h
  stands_in k d h (Some (Known a)) e = subst (λ z. IsArg t defined z a) h.kind (arg_more t [] defined (Some d.kind) a (standing d (Known a) e))
  stands_in k d h (Some (Virtual n)) e = absurd (standing d (Virtual n) e)

  pub followed_arg : (k : Option Kind) (a : Arg) → IsArg t defined k a → IsArg t defined k (followed forward a)
  followed_arg k (arg.Of d) h = stands_in k d h (name_in forward d) refl
  followed_arg k (arg.Const z) h = h
  followed_arg k arg.Null h = h
  followed_arg k (arg.Class n) h = h
  followed_arg k (arg.Func n) h = h
  followed_arg k (arg.Ptr n) h = h

  raw_box : (b : BoxId) (y : Option Val) → name_in names b ≡ y → IsSome y → IsArg t defined (Some b.kind) (known_or arg.Null y)
  raw_box b None e h = absurd (false_true h)
  raw_box b (Some (Known a)) e h = named b (Known a) e
  raw_box b (Some (Virtual n)) e h = absurd (named b (Virtual n) e)

  pub raw_arg : (a : Arg) → NamesArg t a → AllByRecursion (λ (b : BoxId). IsSome (name_in names b)) (boxes_of_arg a) → IsArg t defined (kind_of_arg a) (raw names a)
  raw_arg (arg.Of b) n h = raw_box b (name_in names b) refl h.0
  raw_arg (arg.Const z) n h = record { kind = refl; named = n; boxes = tt }
  raw_arg arg.Null n h = record { kind = refl; named = n; boxes = tt }
  raw_arg (arg.Class k) n h = record { kind = refl; named = n; boxes = tt }
  raw_arg (arg.Func k) n h = record { kind = refl; named = n; boxes = tt }
  raw_arg (arg.Ptr k) n h = record { kind = refl; named = n; boxes = tt }

  pub meant_arg : (a : Arg) → NamesArg t a → AllByRecursion (λ (b : BoxId). IsSome (name_in names b)) (boxes_of_arg a) → IsArg t defined (kind_of_arg a) (meant names forward a)
  meant_arg a n h = followed_arg (kind_of_arg a) (raw names a) (raw_arg a n h)

  -- Arguments

  abbrev pub Become : List Arg → Type 0
  Become args = AllZip (λ a b. IsArg t defined (kind_of_arg a) b) args (map (meant names forward) args)

  pub meant_args : (args : List Arg) → AllByRecursion (NamesArg t) args → HasNames names args → Become args
  meant_args [] n h = tt
  meant_args (a ∷ args) n h =
      let s = each_parts (λ (b : BoxId). IsSome (name_in names b)) (boxes_of_arg a) (flat_map boxes_of_arg args) h in
      (meant_arg a n.0 s.0, meant_args args n.1 s.1)

  pub args_defined : (args : List Arg) → Become args → AllByRecursion (IsDefined defined) (flat_map boxes_of_arg (map (meant names forward) args))
  args_defined [] z = tt
  args_defined (a ∷ args) z = each_append (IsDefined defined) (boxes_of_arg (meant names forward a)) (flat_map boxes_of_arg (map (meant names forward) args)) z.0.boxes (args_defined args z.1)

  pub args_named : (args : List Arg) → Become args → AllByRecursion (NamesArg t) (map (meant names forward) args)
  args_named [] z = tt
  args_named (a ∷ args) z = (z.0.named, args_named args z.1)

  pub kinds_kept : (args : List Arg) → Become args → map kind_of_arg (map (meant names forward) args) ≡ map kind_of_arg args
  kinds_kept [] z = refl
  kinds_kept (a ∷ args) z = ap (λ l. kind_of_arg (meant names forward a) ∷ l) (kinds_kept args z.1) ∙ ap (λ k. k ∷ map kind_of_arg args) z.0.kind

  -- What they fit

  wanted : (d : Descr) (w : Want) (a : Arg) → kind_of_arg (meant names forward a) ≡ kind_of_arg a → IsWanted t d w a → IsWanted t d w (meant names forward a)
  wanted d want.Int a e h = of_kind (Some kind.Int) a (meant names forward a) e h
  wanted d want.Ref a e h = of_kind (Some kind.Ref) a (meant names forward a) e h
  wanted d want.Stored a e h = of_kind (kind_stored t d) a (meant names forward a) e h
  wanted d want.Class (arg.Of b) e h = absurd h
  wanted d want.Class (arg.Const z) e h = absurd h
  wanted d want.Class arg.Null e h = absurd h
  wanted d want.Class (arg.Class k) e h = h
  wanted d want.Class (arg.Func k) e h = absurd h
  wanted d want.Class (arg.Ptr k) e h = absurd h

  compared : (k : Option Kind) (b : Arg) → AreCompared k b → AreCompared k (meant names forward b)
  compared (Some kind.Int) (arg.Const z) h = tt
  compared (Some kind.Ref) arg.Null h = tt
  compared (Some kind.Ref) (arg.Ptr k) h = tt
  compared _ _ h = absurd h

  called : (d : Descr) (args : List Arg) → Become args → AreCalled t d args → AreCalled t d (map (meant names forward) args)
  called (descr.Call k) (arg.Func f ∷ rest) z h = (h.0, subst (λ l. IsSomeAnd (slice_get t.calls k) (λ (row : CallRow). l ≡ map (λ q. Some q) row.args)) (sym (kinds_kept rest z.1)) h.1)
  called _ _ z h = absurd h

  pub fit : (d : Descr) (w : Takes) (args : List Arg) → Become args → FitArgs t d w args → FitArgs t d w (map (meant names forward) args)
  fit d takes.Nothing [] z h = tt
  fit d (takes.One w) (a ∷ []) z h = wanted d w a z.0.kind h
  fit d (takes.Two w v) (a ∷ b ∷ []) z h = (wanted d w a z.0.kind h.0, wanted d v b z.1.0.kind h.1)
  fit d (takes.Three w v u) (a ∷ b ∷ c ∷ []) z h = (wanted d w a z.0.kind h.0, wanted d v b z.1.0.kind h.1, wanted d u c z.1.1.0.kind h.2)
  fit d takes.Compared (a ∷ b ∷ []) z h = subst (λ k. AreCompared k (meant names forward b)) (sym z.0.kind) (compared (kind_of_arg a) b h)
  fit d takes.Called args z h = called d args z h
  fit d takes.Finished [] z h = tt
  fit d takes.Finished (a ∷ []) z h = subst IsSome (sym z.0.kind) h
  fit d takes.Passed args z h = tt
  fit d _ _ z h = absurd h
