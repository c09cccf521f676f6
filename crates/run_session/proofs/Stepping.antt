-- One activation of a session makes an event.
use Rattle.std.proofs.Common.{◌≡◌, ◌≢◌, ℕ, zero, suc, ◌+◌, ◌<◌, ◌≤◌, ◌^◌, List, [], ◌∷◌, ◌++◌, length, map, Option, Some, None, refl, ap, sym, ◌∙◌, subst, arith}
use Rattle.std.specs.Prelude.{slice_get, slice_set, slice_index_or}
use Rattle.std.specs.List.{All, AllZip}
use Rattle.std.proofs.lemmas.List.{length-map}
use Rattle.std.proofs.lemmas.List.Elements.{All-cons, All-head, All-tail}
use Rattle.trace_ops.specs.declared.trace.TraceSet.{TraceSet}
use Rattle.bridge_patch.specs.Image.{Imaged}
use Rattle.opt_set.specs.Optimised.{Optimised}
use Rattle.run_session.specs.declared.now.Now.{Now}
use Rattle.run_session.specs.declared.now.Now.TheVariants as now
use Rattle.lists.proofs.Zips.{zip_first, zip_set}
use Rattle.guard_exit.specs.declared.row.ExitRow.{ExitRow}
use Rattle.opt_meaning.specs.Pieces.{all_pieces}
use Rattle.image_runs.specs.Printed.{Printed, code_at, rows_at}
use Rattle.image_runs.specs.Session.{Activation, Session, Event}
use Rattle.run_session.specs.declared.active.Active.{Active as Kept}
use Rattle.run_session.specs.Calls.{StepsOnce, OthersStay, GivenStays, EndedStays, IsNow, MakesInstruction, MayMake}
use Rattle.run_session.specs.Sessions.{Active, Sessioned, Tells, IsSession, host_in}
use Rattle.run_session.specs.Turning.{MakesEvent, MakesOne, KeepsGiven}
use Rattle.run_session.specs.Viewed.{seen_of}
use Rattle.run_session.proofs.Lists.{map-set, get_some, get-map, get-set, get-others, length-set, set-same}

-- with another activation in the place of one
abbrev pub with_one : ℕ → Active → Sessioned → Sessioned
with_one i b s = record s { activations = slice_set s.activations i b }

pub steps_once : (old : Sessioned) (i : ℕ) (a b : Active) → slice_get old.activations i ≡ Some a → MakesEvent old.set (all_pieces old.optimised.traces) old.image.bytes old.image.exits a b → StepsOnce i old (with_one i b old)
steps_once old i a b at makes im s h =
    let beside = zip_first (Tells old.set.table) old.activations s.activations h.each i a at in
    let made = makes old.arena_bytes beside.0 beside.2 in
    let code : old.image.bytes ≡ code_at im s.parts = sym h.printed.code ∙ ap (code_at im) (sym h.parts) in
    let rows : old.image.exits ≡ rows_at im s.parts = sym h.printed.rows ∙ ap (rows_at im) (sym h.parts) in
    let one = subst (λ (l : List ℕ). Event (host_in old) l old.image.exits beside.0 made.0) code made.1 in
    let two = subst (λ (l : List ExitRow). Event (host_in old) (code_at im s.parts) l beside.0 made.0) rows one in (
      beside.0,
      made.0,
      beside.1,
      two,
      record {
        printed = h.printed;
        parts = h.parts;
        each = zip_set (Tells old.set.table) old.activations s.activations h.each i b made.0 made.2;
      },
    )

pub others_stay : (old : Sessioned) (i : ℕ) (b : Active) → OthersStay i old (with_one i b old)
others_stay old i b = record {
  set = refl;
  optimised = refl;
  image = refl;
  arena_bytes = refl;
  count = length-set old.activations i b;
  others = λ j other. get-others old.activations i j b other;
}

pub is_now : (old : Sessioned) (i : ℕ) (b : Active) → i < length old.activations → IsNow i (with_one i b old) b.now
is_now old i b lt = (b, get-set old.activations i b lt, refl)

some_same : {X : Type 0} (x y : X) → Some x ≡ Some y → x ≡ y
some_same x y e = cc

pub makes_instruction : (old : Sessioned) (i : ℕ) (a b : Active) → i < length old.activations → slice_get old.activations i ≡ Some a → MakesOne a.machine.instructions b.machine.instructions b.now → MakesInstruction i old (with_one i b old) b.now
makes_instruction old i a b lt at one p q pa qb =
    let ea : a ≡ p = some_same a p (sym at ∙ pa) in
    let eb : b ≡ q = some_same b q (sym (get-set old.activations i b lt) ∙ qb) in
    subst (λ (z : Active). MakesOne p.machine.instructions z.machine.instructions b.now) eb (subst (λ (z : Active). MakesOne z.machine.instructions b.machine.instructions b.now) ea one)

given_stays : (old : Sessioned) (i : ℕ) (a b : Active) → i < length old.activations → slice_get old.activations i ≡ Some a → KeepsGiven a b → GivenStays i old (with_one i b old)
given_stays old i a b lt at given p q pa qb =
    let ea : a ≡ p = some_same a p (sym at ∙ pa) in
    let eb : b ≡ q = some_same b q (sym (get-set old.activations i b lt) ∙ qb) in
    subst (λ (z : Active). KeepsGiven p z) eb (subst (λ (z : Active). KeepsGiven z b) ea given)

-- ---- of a session as it is kept

abbrev pub seen_session : TraceSet → Optimised → Imaged → ℕ → List Kept → Sessioned
seen_session set o image bytes acts = record { set = set; optimised = o; image = image; arena_bytes = bytes; activations = map seen_of acts }

-- all that a step promises
pub record Stepped (i : ℕ) (old new : Sessioned) (x : Now) : Type 0 where
  pub event : StepsOnce i old new
  pub now : IsNow i new x
  pub others : OthersStay i old new
  pub made : MakesInstruction i old new x
  pub given : GivenStays i old new
  pub ended : EndedStays i old new

pub stepped : (set : TraceSet) (o : Optimised) (image : Imaged) (bytes : ℕ) (acts : List Kept) (i : ℕ) (k after : Kept) (x : Now)
    → i < length acts → k ≡ slice_index_or acts i k → MakesEvent set (all_pieces o.traces) image.bytes image.exits (seen_of k) (seen_of after) → MakesOne k.machine.instructions after.machine.instructions x → KeepsGiven (seen_of k) (seen_of after) → (k.stands ≢ now.Going → after ≡ k) → after.stands ≡ x
    → Stepped i (seen_session set o image bytes acts) (seen_session set o image bytes (slice_set acts i after)) x
stepped set o image bytes acts i k after x lt is makes one given ended stands =
    let old = seen_session set o image bytes acts in
    let at : slice_get old.activations i ≡ Some (seen_of k) = get-map seen_of acts i k lt ∙ ap (λ (z : Kept). Some (seen_of z)) (sym is) in
    let few : i < length old.activations = subst (λ n. i < n) (sym (length-map acts seen_of)) lt in
    let same : with_one i (seen_of after) old ≡ seen_session set o image bytes (slice_set acts i after) = ap (λ (l : List Active). record old { activations = l }) (sym (map-set seen_of acts i after)) in
    let all : Stepped i old (with_one i (seen_of after) old) after.stands = record {
      event = steps_once old i (seen_of k) (seen_of after) at makes;
      now = is_now old i (seen_of after) few;
      others = others_stay old i (seen_of after);
      made = makes_instruction old i (seen_of k) (seen_of after) few at (subst (λ (y : Now). MakesOne k.machine.instructions after.machine.instructions y) (sym stands) one);
      given = given_stays old i (seen_of k) (seen_of after) few at given;
      ended = λ p pa other. same ∙ ap (λ (l : List Kept). seen_session set o image bytes l) (ap (slice_set acts i) (ended (λ g. other (ap (λ (z : Active). z.now) (some_same p (seen_of k) (sym pa ∙ at)) ∙ g))) ∙ set-same acts i k lt is);
    } in
    subst (λ (y : Now). Stepped i old (seen_session set o image bytes (slice_set acts i after)) y) stands (subst (λ (z : Sessioned). Stepped i old z after.stands) same all)

pub counted : (old : Sessioned) (n : ℕ) (acts : List Kept) (i : ℕ) (k : Kept) → old.activations ≡ map seen_of acts → MayMake i n old → i < length acts → k ≡ slice_index_or acts i k → k.machine.instructions + n ≤ 2 ^ 63
counted old n acts i k are may lt is =
    may (seen_of k) (ap (λ l. slice_get l i) are ∙ get-map seen_of acts i k lt ∙ ap (λ (z : Kept). Some (seen_of z)) (sym is))

pub all_set : {X : Type 0} (P : X → Type 0) (xs : List X) (i : ℕ) (x : X) → All P xs → P x → All P (slice_set xs i x)
all_set P [] i x h p = h
all_set P (y ∷ xs) zero x h p = All-cons P x xs p (All-tail P y xs h)
all_set P (y ∷ xs) (suc i) x h p = All-cons P y (slice_set xs i x) (All-head P y xs h) (all_set P xs i x (All-tail P y xs h) p)

pub now_kept : (s : Sessioned) (acts : List Kept) (i : ℕ) (k : Kept) → map seen_of acts ≡ s.activations → i < length s.activations → k ≡ slice_index_or acts i k → IsNow i s k.stands
now_kept s acts i k are lt is =
    let few : i < length acts = subst (λ n. i < n) (length-map acts seen_of) (subst (λ (l : List Active). i < length l) (sym are) lt) in
    (seen_of k, ap (λ (l : List Active). slice_get l i) (sym are) ∙ get-map seen_of acts i k few ∙ ap (λ (z : Kept). Some (seen_of z)) (sym is), refl)

-- the activation of a number, as it is seen
pub shown_at : (s : Sessioned) (acts : List Kept) (i : ℕ) (k : Kept) → map seen_of acts ≡ s.activations → i < length s.activations → k ≡ slice_index_or acts i k → slice_get s.activations i ≡ Some (seen_of k)
shown_at s acts i k are lt is =
    let few : i < length acts = subst (λ n. i < n) (length-map acts seen_of) (subst (λ (l : List Active). i < length l) (sym are) lt) in
    ap (λ (l : List Active). slice_get l i) (sym are) ∙ get-map seen_of acts i k few ∙ ap (λ (z : Kept). Some (seen_of z)) (sym is)
