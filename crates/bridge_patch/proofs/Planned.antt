-- One plan more.
use Rattle.std.proofs.Common.{◌≡◌, ℕ, ◌+◌, ◌*◌, ◌<◌, ◌≤◌, ◌^◌, List, [], ◌∷◌, ◌++◌, length, refl, sym, ap, ◌∙◌, subst, arith}
use Rattle.std.specs.List.{AllByRecursion}
use Rattle.trace_ops.specs.declared.trace.TraceSet.{TraceSet}
use Rattle.trace_ops.specs.declared.piece.Half.{Half}
use Rattle.trace_ops.specs.declared.piece.Half.TheVariants.{Pre, Body}
use Rattle.trace_ops.specs.declared.piece.Piece.{Piece}
use Rattle.x64_encode.specs.declared.instr.Instr.{Instr}
use Rattle.code_layout.specs.Emitting.{total_size}
use Rattle.bridge_patch.specs.declared.plan.Plan.{Plan}
use Rattle.bridge_patch.specs.Pieces.{exits_in, loop_front, label_places}
use Rattle.bridge_patch.specs.Planning.{CanPlan, HasEnds, IsShortFront, IsPlanned, IsPlan, ArePlanned, StartsBelow, starts_of, jump_count, room_for}
use Rattle.std.proofs.lemmas.Int.{ints}
use Rattle.trace_ops.specs.Weights.{trace_weight}
use Rattle.target_base.specs.declared.place.Place.{Place}
use Rattle.bridge_patch.proofs.Plans.{label_few, jumps_few}

pub record PlansAll (set : TraceSet) (registers from : ℕ) (all done rest : List Piece) (plans : List Plan) (at exit : ℕ) : Type 0 where
  pub planned : ArePlanned set registers from 0 done plans at exit
  pub can : AllByRecursion (λ (p : Piece). CanPlan set p registers) rest
  pub room : at + room_for rest ≤ from + room_for all
  pub exits : 16 * exit ≤ at
  pub starts : StartsBelow (starts_of plans)
  pub limit : from + room_for all < 2 ^ 30

starts_more : (xs : List Plan) (x : Plan) → StartsBelow (starts_of xs) → x.start < 2 ^ 31 → StartsBelow (starts_of (xs ++ x ∷ []))
starts_more [] x h lt = (lt, tt)
starts_more (y ∷ ys) x h lt = (h.0, starts_more ys x h.1 lt)

pub front_short : (h : Half) → total_size (loop_front h) ≤ 4
front_short Pre = omega arith
front_short Body = omega arith

planned_more : (set : TraceSet) (registers a e at exit : ℕ) (ps : List Piece) (xs : List Plan) (p : Piece) (x : Plan) → ArePlanned set registers a e ps xs at exit → IsPlan set registers p at exit x
    → ArePlanned set registers a e (ps ++ p ∷ []) (xs ++ x ∷ []) (x.stubs + 16 * exits_in p.ops) (exit + exits_in p.ops)
planned_more set registers a e at exit [] [] p x h i =
    (subst (λ (k : ℕ). IsPlan set registers p k e x) (sym h.0) (subst (λ (k : ℕ). IsPlan set registers p at k x) (sym h.1) i), (refl, ap (λ (k : ℕ). k + exits_in p.ops) h.1))
planned_more set registers a e at exit [] (y ∷ ys) p x h i = absurd h
planned_more set registers a e at exit (q ∷ qs) [] p x h i = absurd h
planned_more set registers a e at exit (q ∷ qs) (y ∷ ys) p x h i = (h.0, planned_more set registers (y.stubs + 16 * exits_in q.ops) (e + exits_in q.ops) at exit qs ys p x h.1 i)

pub plans_more : (set : TraceSet) (registers from : ℕ) (all done done' rest : List Piece) (plans plans' : List Plan) (at exit at' exit' exits : ℕ) (p : Piece) (x : Plan)
    → PlansAll set registers from all done (p ∷ rest) plans at exit → IsPlan set registers p at exit x → done' ≡ done ++ p ∷ [] → plans' ≡ plans ++ x ∷ [] → exits ≡ exits_in p.ops
    → at' ≡ x.stubs + 16 * exits → exit' ≡ exit + exits → PlansAll set registers from all done' rest plans' at' exit'
plans_more set registers from all done done' rest plans plans' at exit at' exit' exits p x h i d l n a e =
    let place : at' ≡ x.stubs + 16 * exits_in p.ops = a ∙ ap (λ (k : ℕ). x.stubs + 16 * k) n in
    let number : exit' ≡ exit + exits_in p.ops = e ∙ ap (λ (k : ℕ). exit + k) n in
    let more = planned_more set registers from 0 at exit done plans p x h.planned i in
    let front : total_size x.front ≤ 4 = subst (λ (f : List Instr). total_size f ≤ 4) (sym i.front) (front_short p.id.half) in record {
      planned =
          subst (λ (ps : List Piece). ArePlanned set registers from 0 ps plans' at' exit') (sym d)
          (subst (λ (xs : List Plan). ArePlanned set registers from 0 (done ++ p ∷ []) xs at' exit') (sym l)
          (subst (λ (k : ℕ). ArePlanned set registers from 0 (done ++ p ∷ []) (plans ++ x ∷ []) k exit') (sym place)
          (subst (λ (k : ℕ). ArePlanned set registers from 0 (done ++ p ∷ []) (plans ++ x ∷ []) (x.stubs + 16 * exits_in p.ops) k) (sym number) more)));
      can = h.can.1;
      room = omega (arith, h.room, place, i.stubs, i.start, front, i.short);
      exits = omega (arith, h.exits, place, number, i.stubs, i.start);
      starts = subst (λ (xs : List Plan). StartsBelow (starts_of xs)) (sym l) (starts_more plans x h.starts (omega (arith, i.start, front, h.room, h.limit)));
      limit = h.limit;
    }

-- ---- the ends of a piece of a loop

pub ends_are : (registers : ℕ) (p : Piece) (label to : List Place) → label ≡ label_places (length p.label) → to ≡ label_places (jump_count p.ops)
    → HasEnds p registers (label_places (length p.label)) (label_places (jump_count p.ops)) → HasEnds p registers label to
ends_are registers p label to l t h = subst (λ (x : List Place). HasEnds p registers x to) (sym l) (subst (HasEnds p registers (label_places (length p.label))) (sym t) h)

pub plan_is : (set : TraceSet) (registers : ℕ) (p : Piece) (at exit : ℕ) (x : Plan) (label to : List Place) (front : List Instr) → label ≡ label_places (length p.label) → to ≡ label_places (jump_count p.ops) → front ≡ loop_front p.id.half
    → IsPlanned set p registers label to front at exit x → IsPlan set registers p at exit x
plan_is set registers p at exit x label to front l t f h =
    subst (λ (i : List Instr). IsPlanned set p registers (label_places (length p.label)) (label_places (jump_count p.ops)) i at exit x) f
    (subst (λ (y : List Place). IsPlanned set p registers (label_places (length p.label)) y front at exit x) t
    (subst (λ (y : List Place). IsPlanned set p registers y to front at exit x) l h))

pub short_front : (h : Half) → IsShortFront (loop_front h)
short_front Pre = record { rows = ((omega arith, omega arith, omega (arith, ints)), tt); few = omega arith; short = omega arith }
short_front Body = record { rows = tt; few = omega arith; short = omega arith }

pub labels_few : (set : TraceSet) (p : Piece) (registers : ℕ) → CanPlan set p registers → (length p.label < 2 ^ 31) × (jump_count p.ops < 2 ^ 31)
labels_few set p registers h =
    let label : length p.label < 2 * trace_weight set p.id.trace + 65 = label_few p (2 * trace_weight set p.id.trace + 65) (omega (arith, h.sound.few_boxes)) in
    (omega (arith, label, h.weight), omega (arith, jumps_few set p registers h))
