-- A start of a session.
use Rattle.std.proofs.Common.{◌≡◌, ℕ, zero, suc, ◌+◌, ◌-◌, ◌*◌, ◌<◌, ◌≤◌, List, [], ◌∷◌, ◌++◌, length, map, drop, Option, Some, None, refl, ap, sym, ◌∙◌, subst, arith}
use Rattle.std.specs.Prelude.{slice_get}
use Rattle.std.specs.List.{All, AllZip}
use Rattle.std.proofs.lemmas.List.{length-map}
use Rattle.lists.proofs.Zips.{zip_push}
use Rattle.trace_ops.specs.declared.trace.TraceSet.{TraceSet}
use Rattle.trace_meaning.specs.declared.value.Value.{Value}
use Rattle.trace_meaning.specs.declared.call.Answer.{Answer}
use Rattle.trace_meaning.specs.Starting.{Starts}
use Rattle.arena_objects.specs.Starting.{first_words}
use Rattle.opt_meaning.specs.Pieces.{all_pieces, preamble}
use Rattle.bridge_patch.specs.Image.{Imaged, entry_in}
use Rattle.opt_set.specs.Optimised.{Optimised}
use Rattle.image_runs.specs.Printed.{Printed, bridges_at}
use Rattle.image_runs.specs.Session.{Activation, Session, first}
use Rattle.session_host.specs.Hosting.{IsStarted}
use Rattle.run_session.specs.declared.active.Active.{Active as Kept}
use Rattle.run_session.specs.Beginning.{Begins}
use Rattle.run_session.specs.Calls.{IsStart, IsFresh, StartsWith, EarlierStay}
use Rattle.run_session.specs.Sessions.{Active, Sessioned, Tells, IsPrinted, IsSession, host_in}
use Rattle.run_session.specs.Viewed.{seen_of, taken_by}
use Rattle.run_session.proofs.Begun.{first_taken_is}
use Rattle.run_session.proofs.Stepping.{seen_session}

map-push : {X Y : Type 0} (f : X → Y) (xs : List X) (x : X) → map f (xs ++ x ∷ []) ≡ map f xs ++ f x ∷ []
map-push f [] x = refl
map-push f (y ∷ xs) x = ap (λ l. f y ∷ l) (map-push f xs x)

pub length-push : {X : Type 0} (xs : List X) (x : X) → length (xs ++ x ∷ []) ≡ length xs + 1
length-push [] x = refl
length-push (y ∷ xs) x = (let e = length-push xs x in omega (arith, e))

get-before : {X : Type 0} (xs ys : List X) (j : ℕ) → j < length xs → slice_get (xs ++ ys) j ≡ slice_get xs j
get-before [] ys j lt = absurd (omega (arith, lt))
get-before (x ∷ xs) ys zero lt = refl
get-before (x ∷ xs) ys (suc j) lt = get-before xs ys j (omega (arith, lt))

get-last : {X : Type 0} (xs : List X) (x : X) (n : ℕ) → n ≡ length xs → slice_get (xs ++ x ∷ []) n ≡ Some x
get-last [] x zero e = refl
get-last [] x (suc n) e = absurd (omega (arith, e))
get-last (y ∷ xs) x zero e = absurd (omega (arith, e))
get-last (y ∷ xs) x (suc n) e = get-last xs x n (omega (arith, e))

-- an activation at its start is the first of a run
tells_first : (set : TraceSet) (image : Imaged) (bytes trace : ℕ) (inputs : List Value) (answers : List Answer) (k : Kept) (im : Printed) (j : ℕ) → IsPrinted image im → j ≡ length im.parts → Begins set image bytes trace inputs answers k
    → Tells set.table (seen_of k) (first im j trace inputs answers k.machine)
tells_first set image bytes trace inputs answers k im j printed parts b = record {
  trace = sym b.trace_is;
  inputs = sym b.inputs_are;
  given = sym b.answers_are;
  machine = refl;
  arena = λ g. refl;
  bytes = ap (λ l. taken_by k.machine.arena.taken l - k.first_taken) (b.kept.last b.going) ∙ ap (λ n. k.machine.arena.taken - n) b.kept.first;
  log = sym b.calls;
  answers = sym b.answers_are ∙ ap (λ n. drop n k.log.answers) (sym b.used);
  failures = sym b.failures;
  cuts = ap (λ n. map (λ (x : ℕ). (x, 0)) (bridges_at im n)) parts ∙ ap (λ l. map (λ (x : ℕ). (x, 0)) l) printed.bridges ∙ sym b.cuts;
  frames = λ e. b.frames;
  end = b.going;
}

none_taken : (n first : ℕ) → n ≡ first → n - first ≡ 0
none_taken n first e = omega (arith, e)

-- and it is so as it is seen
fresh_first : (set : TraceSet) (image : Imaged) (bytes trace : ℕ) (inputs : List Value) (answers : List Answer) (k : Kept) → Begins set image bytes trace inputs answers k → IsFresh trace inputs answers image.attached (seen_of k)
fresh_first set image bytes trace inputs answers k b = record {
  trace_is = b.trace_is;
  inputs_are = b.inputs_are;
  answers_are = b.answers_are;
  used = b.used;
  instructions = b.started.machine.instructions;
  log = b.calls;
  failures = b.failures;
  cuts = b.cuts;
  now = b.going;
  frames = b.frames;
  bytes = ap (λ l. taken_by k.machine.arena.taken l - k.first_taken) (b.kept.last b.going) ∙ none_taken k.machine.arena.taken k.first_taken (first_taken_is set bytes trace (entry_in image.pieces (preamble trace)) inputs k.machine b.started ∙ sym b.kept.first);
}

pub start_is : (set : TraceSet) (o : Optimised) (image : Imaged) (bytes : ℕ) (acts : List Kept) (k : Kept) (trace i : ℕ) (inputs : List Value) (answers : List Answer)
    → Starts set trace inputs → i ≡ length acts → length acts < 16 → length answers ≤ 4096 → Begins set image bytes trace inputs answers k
    → IsStart trace inputs answers (seen_session set o image bytes acts) (seen_session set o image bytes (acts ++ k ∷ [])) i
start_is set o image bytes acts k trace i inputs answers fit number few answers_few b = record {
  fit = fit;
  number = number ∙ sym (length-map acts seen_of);
  few = omega (arith, number, few);
  answers_few = answers_few;
  set = refl;
  optimised = refl;
  image = refl;
  arena_bytes = refl;
  count = ap length (map-push seen_of acts k) ∙ length-push (map seen_of acts) (seen_of k);
  starts = begins;
  quiet = (seen_of k, last, b.started.machine.instructions);
  fresh = (seen_of k, last, fresh_first set image bytes trace inputs answers k b);
  earlier = λ j lt. ap (λ l. slice_get l j) (map-push seen_of acts k) ∙ get-before (map seen_of acts) (seen_of k ∷ []) j lt;
}
  where
    last : slice_get (map seen_of (acts ++ k ∷ [])) i ≡ Some (seen_of k)
    last = ap (λ l. slice_get l i) (map-push seen_of acts k) ∙ get-last (map seen_of acts) (seen_of k) i (number ∙ sym (length-map acts seen_of))

    begins : StartsWith trace inputs answers (seen_session set o image bytes acts) (seen_session set o image bytes (acts ++ k ∷ []))
    begins im s h entry there =
        let x = first im s.parts trace inputs answers k.machine in
        let t = record s { activations = s.activations ++ x ∷ [] } in
        let started = subst (λ n. IsStarted set bytes trace n inputs k.machine) (sym (h.printed.entries trace entry there)) b.started in
        let both = zip_push (Tells set.table) (map seen_of acts) s.activations (seen_of k) x h.each (tells_first set image bytes trace inputs answers k im s.parts h.printed h.parts b) in (
          k.machine,
          started,
          record {
            printed = h.printed;
            parts = h.parts;
            each = subst (λ l. AllZip (Tells set.table) l t.activations) (sym (map-push seen_of acts k)) both;
          },
        )
