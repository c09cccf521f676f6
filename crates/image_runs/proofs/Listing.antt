-- The listing of an image's code, and that a going activation stands at one of its places.
use Rattle.std.proofs.Common.{◌≡◌, ℕ, ◌+◌, Bool, false, List, [], ◌∷◌, ◌++◌, length, append-nil, refl, sym, ap, ◌∙◌, subst, inl, inr, ◌⊎◌, arith, None}
use Rattle.std.proofs.lemmas.Bool.Decides.{nat_tests}
use Rattle.lists.specs.Has.{Has}
use Rattle.trace_ops.specs.declared.piece.PieceId.{PieceId}
use Rattle.guard_exit.specs.declared.row.ExitRow.{ExitRow}
use Rattle.x64_encode.specs.Listing.{Leads, Listing}
use Rattle.x64_machine.specs.declared.state.Stop.TheVariants.{Returned, HostCall, BadAddress, BadCode, UndefinedFlag}
use Rattle.x64_machine.specs.declared.state.Turn.{Turn}
use Rattle.x64_machine.specs.declared.state.Turn.TheVariants.{Went, Stopped}
use Rattle.x64_machine.specs.State.{State, Acted, stops}
use Rattle.x64_machine.specs.Step.{ahead, is_in, StepWhere, MachineStep}
use Rattle.trace_meaning.specs.World.{World}
use Rattle.trace_meaning.specs.Legs.{Wrong, Over}
use Rattle.opt_meaning.specs.Pieces.{pieces, PiecesNow}
use Rattle.asm_select.specs.Slots.{Slot, Jumps, Lists, instr_of, size_of, sizes_of}
use Rattle.image_runs.specs.Session.{Calls, Activation}
use Rattle.image_runs.specs.Selection.{Model}
use Rattle.image_runs.specs.Image.{Image, code_in, IsImage}
use Rattle.image_runs.specs.Runs.{PieceProgram}
use Rattle.image_runs.specs.Kept.{AreUpTo, Kept, Plainly, Failing, Asking, Returning_by, Straying}
use Rattle.image_runs.specs.Following.{AnswersMakeNone, Begun, Beside, Follows, Goes, Shows_end, Refuses, Strays, IsActive}
use Rattle.image_runs.specs.Attached.{Grown}
use Rattle.image_runs.specs.Listed.{places_from, places_of, IsAtPlace, GoWrong}
use Rattle.image_runs.specs.Relying.{Relies}
use Rattle.image_runs.proofs.Bytes.{size_is, length-bytes}
use Rattle.image_runs.proofs.Ways.{in_code}
use Rattle.image_runs.proofs.Stepping.{keeps}
use Rattle.image_runs.proofs.Following.{prepare, no_end}
use Rattle.image_runs.proofs.Steadying.{pieces_steady}
use Rattle.image_runs.proofs.Calls.{going_pointer}

-- ---- the listing

leads_listed : (by : Jumps) (code : List ℕ) (p : ℕ) (xs : List Slot) → Lists by code p xs → Leads code p (places_from p xs) (p + sizes_of xs)
leads_listed by code p [] l = omega arith
leads_listed by code p (x ∷ xs) l =
    let more = leads_listed by code (p + size_of x) xs l.1 in
    let to : (p + size_of x) + sizes_of xs ≡ p + (size_of x + sizes_of xs) = omega arith in
    let here = subst (λ (n : ℕ). Leads code (p + size_of x) (places_from (p + size_of x) xs) n) to more in
    (refl, (instr_of by x, l.0, subst (λ (n : ℕ). Leads code (p + n) (places_from (p + size_of x) xs) (p + (size_of x + sizes_of xs))) (sym (size_is by x)) here))

pub image_is_listed : Relies → (m : Model) (g : Image) (bs : List ℕ) (rows : List ExitRow) → IsImage m g bs rows → Listing (code_in g) (places_of g)
image_is_listed law m g bs rows image = record {
  to = 0 + sizes_of g.slots;
  leads = leads_listed g.by (code_in g) 0 g.slots (in_code law g.by g.slots image.have);
  ends = λ i h. absurd (omega (arith, h.room, length-bytes g.by g.slots));
}

places-append : (p : ℕ) (xs ys : List Slot) → places_from p (xs ++ ys) ≡ places_from p xs ++ places_from (p + sizes_of xs) ys
places-append p [] ys = let n : p ≡ p + 0 = omega arith in ap (λ (k : ℕ). places_from k ys) n
places-append p (x ∷ xs) ys =
    let n : (p + size_of x) + sizes_of xs ≡ p + (size_of x + sizes_of xs) = omega arith in
    ap (λ (l : List ℕ). p ∷ l) (places-append (p + size_of x) xs ys ∙ ap (λ (k : ℕ). places_from (p + size_of x) xs ++ places_from k ys) n)

pub places_stay : (g h : Image) → Grown g h → (more : List ℕ) × (places_of h ≡ places_of g ++ more)
places_stay g h grown = (places_from (0 + sizes_of g.slots) grown.more, ap (places_from 0) grown.slots ∙ places-append 0 g.slots grown.more)

-- ---- the instruction pointer

has_place : (p : ℕ) (front back : List Slot) (x : Slot) → Has (places_from p (front ++ x ∷ back)) (p + sizes_of front)
has_place p [] back x = inl (omega arith)
has_place p (y ∷ front) back x =
    let n : (p + size_of y) + sizes_of front ≡ p + (size_of y + sizes_of front) = omega arith in
    inr (subst (Has (places_from (p + size_of y) (front ++ x ∷ back))) n (has_place (p + size_of y) front back x))

not_in : (code : List ℕ) (at : ℕ) → at ≡ 0x40000000 + length code → is_in code at ≡ false
not_in code at e = grind (arith, nat_tests)

-- behind the code no instruction is made
behind_code : (code : List ℕ) (s : State) → s.at ≡ 0x40000000 + length code → MachineStep code s (stops (BadAddress s.at) s)
behind_code code s e = subst (λ (b : Bool). StepWhere b (ahead code s.at) s (stops (BadAddress s.at) s)) (sym (not_in code s.at e)) refl

abbrev no_of : Turn → ℕ
no_of Went = 0
no_of (Stopped (HostCall e)) = 1
no_of (Stopped Returned) = 2
no_of (Stopped (BadAddress at)) = 3
no_of (Stopped (BadCode at)) = 4
no_of (Stopped (UndefinedFlag at)) = 5

bad_is_wrong : (m : Model) (g : Image) (a : PieceProgram) (rows : List ExitRow) (x : PiecesNow) (c : Calls) (s : State) (todo at : ℕ) → Kept m g a rows x c s todo (stops (BadAddress at) s) → (q : PieceId) × (w : World) × (x ≡ Over q (Wrong w))
bad_is_wrong m g a rows x c s todo at (Plainly t2 y n path left did off ran stands led same) = absurd (let n : 3 ≡ 0 = ap (λ (d : Acted). no_of d.turn) did in omega (arith, n))
bad_is_wrong m g a rows x c s todo at (Failing t2 y path left did yes_it ran stands led same) = absurd (let n : 3 ≡ 0 = ap (λ (d : Acted). no_of d.turn) did in omega (arith, n))
bad_is_wrong m g a rows x c s todo at (Asking e2 t2 did replies) = absurd (let n : 3 ≡ 1 = ap (λ (d : Acted). no_of d.turn) did in omega (arith, n))
bad_is_wrong m g a rows x c s todo at (Returning_by pl op before rest l did there ops kind jump is number gone) = absurd (let n : 3 ≡ 2 = ap (λ (d : Acted). no_of d.turn) did in omega (arith, n))
bad_is_wrong m g a rows x c s todo at (Straying q w is) = (q, w, is)

module _ (law : Relies) (m : Model) (g : Image) (bs : List ℕ) (rows : List ExitRow) (b : Begun) (act : Activation) (quiet : AnswersMakeNone m.host) (image : IsImage m g bs rows) (active : IsActive m g bs b act) (none : act.end ≡ None) (followed : m.followed) where
  abbrev a : PieceProgram
  a = pieces m.set m.pieces act.cuts

  abbrev Where : Type 0
  Where = IsAtPlace g act.machine ⊎ GoWrong a b

  at_spot : Beside m g b act → (front back : List Slot) → g.slots ≡ front ++ back → act.machine.at ≡ 0x40000000 + (0 + sizes_of front) → Where
  at_spot z front (x ∷ back) split at = inl (0 + sizes_of front, subst (λ (l : List Slot). Has (places_from 0 l) (0 + sizes_of front)) (sym split) (has_place 0 front back x), at)
  at_spot z front [] split at =
      let p = prepare law m quiet g bs rows image b act (pieces_steady m.set m.pieces act.cuts) z in
      let all : sizes_of g.slots ≡ sizes_of front = ap sizes_of (split ∙ append-nil front) in
      let step = behind_code (code_in g) act.machine (omega (arith, at, all, length-bytes g.by g.slots)) in
      let upto = subst (λ (k : ℕ). AreUpTo k act.cuts) (sym p.exact) active.upto in
      let kept = keeps law m g bs rows image act.cuts active.cuts (pieces_steady m.set m.pieces act.cuts) p.x act.calls act.machine p.todo (stops (BadAddress act.machine.at) act.machine) upto p.ready step in
      let w = bad_is_wrong m g a rows p.x act.calls act.machine p.todo act.machine.at kept in
      inr (p.reached.operations, w.0, w.1, p.reached.ran ∙ w.2)

  by_follows : Follows m g b act → Where
  by_follows (Goes nothing z) = let k = going_pointer m g b act z followed in at_spot z k.0 k.1 k.2 k.3
  by_follows (Shows_end end is y) = absurd (no_end end (sym is ∙ none))
  by_follows (Refuses end is y) = absurd (no_end end (sym is ∙ none))
  by_follows (Strays q w r) = inr (r.operations, q, w, r.ran)

  -- a going activation stands at a place of the listing, unless the pieces are wrong
  pub pointer_is_place : IsAtPlace g act.machine ⊎ GoWrong a b
  pointer_is_place = by_follows active.follows
