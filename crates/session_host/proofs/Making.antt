-- New objects are served.
use Rattle.std.proofs.Common.{◌≡◌, ℕ, ◌+◌, ◌*◌, ◌-◌, ◌^◌, ◌<◌, ◌≤◌, Bool, true, false, List, [], ◌∷◌, ◌++◌, length, Some, refl, sym, ap, ◌∙◌, subst, arith, ℤ, pos, negsuc, min}
use Rattle.std.specs.Prelude.{nat_le, slice_get}
use Rattle.std.specs.List.{Contains}
use Rattle.std.proofs.Math.Nat.{min-le_left}
use Rattle.std.proofs.lemmas.Bool.{leb-true, leb-false}
use Rattle.std.proofs.lemmas.List.{length-map, length-replicate}
use Rattle.trace_ops.specs.Words.{IsWord}
use Rattle.trace_ops.specs.declared.table.Table.{Table}
use Rattle.trace_ops.specs.declared.table.ShapeOf.{ShapeOf}
use Rattle.trace_ops.specs.declared.table.ShapeOf.TheVariants.{Size, Array}
use Rattle.trace_ops.specs.declared.piece.OptOp.{OptOp}
use Rattle.trace_meaning.specs.declared.value.Value.{Value}
use Rattle.trace_meaning.specs.declared.value.Value.TheVariants as v
use Rattle.trace_meaning.specs.declared.value.Object.{Object}
use Rattle.trace_meaning.specs.Legs.{On}
use Rattle.trace_meaning.specs.Objects.{fields_of, zero_field, zero_item, with_new}
use Rattle.trace_meaning.specs.World.{World}
use Rattle.opt_meaning.specs.Step.{Opt}
use Rattle.target_base.specs.Arena.{Arena}
use Rattle.arena_objects.specs.Layout.{address_of, word_of, words_in, words_of, words_ahead}
use Rattle.arena_objects.specs.Standing.{IsPart, Stands}
use Rattle.arena_objects.specs.Making.{bytes_left, zeroed_of, arena_with}
use Rattle.arena_objects.specs.Laws.{WordsAreAdded, TakenIsThere}
use Rattle.x64_machine.specs.State.{State}
use Rattle.asm_select.specs.Valued.{IsFit}
use Rattle.asm_select.specs.Reached.{PrebuiltsStand}
use Rattle.asm_select.specs.Asked.{HostLeft, AllocationsLeave, given_by, in_host}
use Rattle.image_runs.specs.Session.{Calls}
use Rattle.image_model.specs.Modelled.{SameCalls, Fills}
use Rattle.image_model.specs.Laws.{ServedSo}
use Rattle.session_host.specs.Answering.{bytes_asked, made_if, made}
use Rattle.session_host.proofs.Registers.{returns_so}

-- what stands at a call
pub record StandsThere (t : Table) (env : Opt) (u : State) : Type 0 where
  pub fit : IsFit u
  pub arena : Stands t env.world.objects u.arena
  pub prebuilts : PrebuiltsStand t env.world.objects

pub record MakingLaws : Type 0 where
  pub leave : AllocationsLeave
  pub there : TakenIsThere
  pub added : WordsAreAdded

pub minus_one : IsWord (negsuc 0)
minus_one = record { sfits = omega arith }

pub less_min : (a b c : ℕ) → a < b → a < c → a < min b c
less_min a b c ab ac = omega arith

pub zeroed_words : (t : Table) (shape : ShapeOf) (n : ℕ) → bytes_asked t shape n ≡ 8 * words_in (zeroed_of t shape n)
zeroed_words t (Size s) n = ap (λ (k : ℕ). 8 * (1 + k)) (sym (length-map (fields_of t s) (λ (f : ℕ). zero_field (slice_get t.fields f))))
zeroed_words t (Array a) n = ap (λ (k : ℕ). 8 * (2 + k)) (sym (length-replicate n (zero_item (slice_get t.arrays a))))

some_words : (o : Object) → 1 ≤ words_in o
some_words o = (let some : 1 ≤ words_ahead o.of = ahead o.of in omega (arith, some))
  where
    ahead : (s : ShapeOf) → 1 ≤ words_ahead s
    ahead (Size k) = omega arith
    ahead (Array k) = omega arith

module _ (l : MakingLaws) (t : Table) (op : OptOp) (env after : Opt) (q : ℕ) (u : State) (c : Calls) (shape : ShapeOf) (n : ℕ) (at : StandsThere t env u) (same : SameCalls env.world c) (there : Contains t.shapes shape)
    (e : after.world ≡ with_new (zeroed_of t shape n) env.world) (given : (x : Value) → given_by op after ≡ Some x → x ≡ v.Obj (length env.world.objects)) where
  abbrev old : List Object
  old = env.world.objects

  abbrev o : Object
  o = zeroed_of t shape n

  abbrev z : ℤ
  z = pos (0x10000000 + u.arena.taken)

  abbrev arena : Arena
  arena = arena_with t shape n u.arena

  objects_are : after.world.objects ≡ old ++ o ∷ []
  objects_are = ap (λ (w : World). w.objects) e

  room : nat_le (bytes_asked t shape n) (bytes_left u.arena) ≡ true → 8 * words_in o + u.arena.taken ≤ 8 * length u.arena.words
  room enough = omega (arith, leb-true (bytes_asked t shape n) (bytes_left u.arena) enough, zeroed_words t shape n, l.there t old u.arena at.arena)

  left : nat_le (bytes_asked t shape n) (bytes_left u.arena) ≡ true → HostLeft t (given_by op after) old after.world.objects z arena
  left enough =
      let d = l.leave t shape n old u.arena at.arena there (room enough) in
      let word = d.result (v.Obj (length old)) refl in
      let part = d.part (v.Obj (length old)) refl in
      subst (λ (os : List Object). HostLeft t (given_by op after) old os z arena) (sym objects_are) (record {
        word = d.word;
        stands = d.stands;
        kept = d.kept;
        result = λ x i. subst (λ (y : Value). z ≡ word_of (address_of (old ++ o ∷ [])) y) (sym (given x i)) word;
        part = λ x i. subst (IsPart (length (old ++ o ∷ []))) (sym (given x i)) part;
      })

  calls : SameCalls after.world c
  calls = subst (λ (w : World). SameCalls w c) (sym e) (record { log = same.log; answers = same.answers })

  fills : nat_le (bytes_asked t shape n) (bytes_left u.arena) ≡ false → Fills t env.world (On after) (in_host op q u) (min (bytes_asked t shape n) (2 ^ 64 - 1)) (bytes_left u.arena)
  fills less =
      let over : bytes_left u.arena < bytes_asked t shape n = leb-false (bytes_asked t shape n) (bytes_left u.arena) less in
      let few : bytes_left u.arena < 2 ^ 64 - 1 = omega (arith, at.arena.few) in
      let least : min (bytes_asked t shape n) (2 ^ 64 - 1) ≤ bytes_asked t shape n = min-le_left (bytes_asked t shape n) (2 ^ 64 - 1) in
      let more : words_of after.world.objects ≡ words_of old + words_in o = ap words_of objects_are ∙ l.added old o in
      (at.arena, refl, less_min (bytes_left u.arena) (bytes_asked t shape n) (2 ^ 64 - 1) over few, omega (arith, least, more, zeroed_words t shape n))

  made_so : (b : Bool) → nat_le (bytes_asked t shape n) (bytes_left u.arena) ≡ b → ServedSo t op env q u (On after) (made_if b t shape n c (in_host op q u))
  made_so true enough = (z, negsuc 0, arena, minus_one, left enough, returns_so op q u z arena at.fit, calls)
  made_so false less = fills less

  pub made_serves : ServedSo t op env q u (On after) (made t shape n c (in_host op q u))
  made_serves = made_so (nat_le (bytes_asked t shape n) (bytes_left u.arena)) refl
