-- A printed image that is built by attachments stands at every moment.
use Rattle.std.proofs.Common.{◌≡◌, ℕ, zero, suc, ◌+◌, ◌<◌, ◌≤◌, List, [], ◌∷◌, ◌++◌, length, take, append_assoc, append-nil, refl, sym, ap, ◌∙◌, subst, arith, Some}
use Rattle.std.specs.Prelude.{slice_get, slice_index_or}
use Rattle.std.specs.List.{flat_map}
use Rattle.std.proofs.lemmas.Grind.{flat_map-append}
use Rattle.std.proofs.lemmas.Option.{slice_get_within, slice_get-get_or, get_or_from_slice_get}
use Rattle.std.proofs.Math.Seq.{take-suc}
use Rattle.x64_machine.specs.State.{State}
use Rattle.opt_meaning.specs.Step.{Opt}
use Rattle.guard_exit.specs.declared.row.ExitRow.{ExitRow}
use Rattle.image_runs.specs.Printed.{Part, Printed, with_part, with_parts, code_at, rows_at, bridges_at}
use Rattle.image_runs.specs.Session.{no_calls}
use Rattle.trace_meaning.specs.declared.value.Value.{Value}
use Rattle.trace_meaning.specs.declared.call.Answer.{Answer}
use Rattle.trace_meaning.specs.Recorded.{first_world}
use Rattle.image_runs.proofs.KeptPieces.{begin_same}
use Rattle.image_runs.specs.Selection.{Model, joined, code_of}
use Rattle.image_runs.proofs.Ways.{weaker}
use Rattle.image_runs.specs.Image.{Image, code_in, IsImage}
use Rattle.trace_ops.specs.declared.piece.Piece.{Piece}
use Rattle.image_runs.specs.Attached.{widened, AreKept, Grown}
use Rattle.image_runs.specs.Sessions.{Begins, StartsBegin, ImageStands, IsBuilt}
use Rattle.image_runs.proofs.Attachment.{attachment_is_image}
use Rattle.image_runs.proofs.Patching.{part_is_code}
use Rattle.image_runs.proofs.AnyEvents.{bridges_next}

parts_append : (code : List ℕ) (xs : List Part) (x : Part) → with_parts code (xs ++ x ∷ []) ≡ with_part (with_parts code xs) x
parts_append code [] x = refl
parts_append code (y ∷ xs) x = parts_append (with_part code y) xs x

take_next : (xs : List Part) (j : ℕ) (x : Part) → slice_get xs j ≡ Some x → take (j + 1) xs ≡ take j xs ++ x ∷ []
take_next xs j x e =
    let n : j + 1 ≡ suc j = omega arith in
    ap (λ (k : ℕ). take k xs) n ∙ take-suc xs j x (slice_get_within xs j x e) ∙ ap (λ (y : Part). take j xs ++ y ∷ []) (get_or_from_slice_get xs j x x e)

pub code_next : (im : Printed) (j : ℕ) (x : Part) → slice_get im.parts j ≡ Some x → code_at im (j + 1) ≡ with_part (code_at im j) x
code_next im j x e = ap (with_parts im.base) (take_next im.parts j x e) ∙ parts_append im.base (take j im.parts) x

abbrev rows_in : Part → List ExitRow
rows_in x = x.rows

pub rows_next : (im : Printed) (j : ℕ) (x : Part) → slice_get im.parts j ≡ Some x → rows_at im (j + 1) ≡ rows_at im j ++ x.rows
rows_next im j x e =
    ap (λ (l : List Part). im.rows ++ flat_map rows_in l) (take_next im.parts j x e)
    ∙ ap (λ (l : List ExitRow). im.rows ++ l) (flat_map-append rows_in (take j im.parts) (x ∷ []) ∙ ap (λ (l : List ExitRow). flat_map rows_in (take j im.parts) ++ l) (append-nil x.rows))
    ∙ sym (append_assoc im.rows (flat_map rows_in (take j im.parts)) x.rows)

abbrev no_part : Part
no_part = record { bridge = 0; bytes = []; rows = []; patches = [] }

there_is : (xs : List Part) (j : ℕ) → j < length xs → (x : Part) × (slice_get xs j ≡ Some x)
there_is xs j less = (slice_index_or xs j no_part, slice_get-get_or xs j no_part less)

begins_next : (m : Model) (p : List Piece) (g h : Image) (bs : List ℕ) → AreKept m p g bs → Grown g h → (trace : ℕ) (inputs : List Value) (given : List Answer) (s : State) → Begins m g trace inputs given s → Begins (widened m p) h trace inputs given s
begins_next m p g h bs kept grown trace inputs given s z = record {
  pl = z.pl;
  there = grown.placed z.pl z.there;
  named = z.named;
  at = z.at;
  enters = weaker z.pl.at (code_of z.pl) (joined z.pl.codes) s (λ t k. subst (λ (env : Opt). m.holds z.pl.id 0 env (no_calls given) t) (sym (begin_same p m.pieces z.pl.id inputs (first_world m.set.table given) (kept.placed z.pl z.there))) k) z.enters;
  none = z.none;
}

module _ (m : Model) (p : ℕ → List Piece) (g : ℕ → Image) (im : Printed) (z : IsBuilt m p g im) where
  ImageAt : ℕ → Type 0
  ImageAt k = IsImage (widened m (p k)) (g k) (bridges_at im k) (rows_at im k)

  code_stands : (j : ℕ) → j ≤ length im.parts → code_at im j ≡ code_in (g j)
  code_stands zero le = z.base
  code_stands (suc j) le =
      let n : j + 1 ≡ suc j = omega arith in
      let less : j < length im.parts = omega (arith, le) in
      let y = there_is im.parts j less in
      let a = z.attached j y.0 y.1 in
      subst (λ (k : ℕ). code_at im k ≡ code_in (g k)) n
      (code_next im j y.0 y.1 ∙ ap (λ (code : List ℕ). with_part code y.0) (code_stands j (omega (arith, le))) ∙ sym (part_is_code (g j) (g (j + 1)) a.0.grown y.0 a.1))

  image_stands : (j : ℕ) → j ≤ length im.parts → IsImage (widened m (p j)) (g j) (bridges_at im j) (rows_at im j)
  image_stands zero le = subst (λ (rows : List ExitRow). IsImage (widened m (p 0)) (g 0) [] rows) (sym (append-nil im.rows)) z.compiled
  image_stands (suc j) le =
      let n : j + 1 ≡ suc j = omega arith in
      let less : j < length im.parts = omega (arith, le) in
      let y = there_is im.parts j less in
      let a = z.attached j y.0 y.1 in
      let here = attachment_is_image (widened m (p j)) (p (j + 1)) (g j) (g (j + 1)) (bridges_at im j) y.0.bridge (rows_at im j) y.0.rows (image_stands j (omega (arith, le))) a.0 in
      subst (λ (k : ℕ). IsImage (widened m (p k)) (g k) (bridges_at im k) (rows_at im k)) n
      (subst (λ (bs : List ℕ). IsImage (widened m (p (j + 1))) (g (j + 1)) bs (rows_at im (j + 1))) (sym (bridges_next im j y.0 y.1))
      (subst (λ (rows : List ExitRow). IsImage (widened m (p (j + 1))) (g (j + 1)) (bridges_at im j ++ y.0.bridge ∷ []) rows) (sym (rows_next im j y.0 y.1)) here))

  begins_stand : (j : ℕ) → j ≤ length im.parts → StartsBegin m (p j) (g j) im
  begins_stand zero le trace entry inputs given s inside starts = z.begins trace entry inputs given s inside starts
  begins_stand (suc j) le trace entry inputs given s inside starts =
      let n : j + 1 ≡ suc j = omega arith in
      let less : j < length im.parts = omega (arith, le) in
      let y = there_is im.parts j less in
      let a = (z.attached j y.0 y.1).0 in
      subst (λ (k : ℕ). Begins (widened m (p k)) (g k) trace inputs given s) n
      (begins_next (widened m (p j)) (p (j + 1)) (g j) (g (j + 1)) (bridges_at im j) a.kept a.grown trace inputs given s (begins_stand j (omega (arith, le)) trace entry inputs given s inside starts))

  -- what is built by attachments stands at every moment
  pub built_stands : ImageStands m p g im
  built_stands = record {
    code = code_stands;
    image = image_stands;
    kept = λ j less. (let y = there_is im.parts j less in (z.attached j y.0 y.1).0.kept);
    grown = λ j less. (let y = there_is im.parts j less in (z.attached j y.0 y.1).0.grown);
    begins = begins_stand;
  }
