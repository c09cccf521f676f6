-- How the answer to a call comes out, with what the call shows.
use Rattle.std.proofs.Common.{◌≡◌, ℕ, ◌+◌, ◌-◌, ◌^◌, Bool, true, false, min, ℤ, pos, List, [], ◌∷◌, ◌++◌, length, drop, slice_get, Option, Some, None, refl, sym, ap, ◌∙◌, subst}
use Rattle.std.specs.Prelude.{nat_le}
use Rattle.std.specs.List.{flat_map}
use Rattle.trace_ops.specs.declared.table.Table.{Table}
use Rattle.trace_meaning.specs.declared.value.Value.{Value}
use Rattle.trace_meaning.specs.declared.call.Give.{Give}
use Rattle.trace_meaning.specs.declared.call.Answer.{Answer}
use Rattle.trace_meaning.specs.declared.call.CallEvent.{CallEvent}
use Rattle.trace_meaning.specs.Answers.{seen_of}
use Rattle.trace_meaning.specs.Values.{references}
use Rattle.target_base.specs.Arena.{Arena}
use Rattle.arena_objects.specs.Making.{bytes_left}
use Rattle.arena_objects.specs.ReadBack.{objects_in}
use Rattle.arena_objects.specs.declared.making.Full.{Full as TooFew}
use Rattle.arena_world.specs.Fitting.{fits_words}
use Rattle.arena_world.specs.Answering.{fresh_bytes, answered_arena}
use Rattle.x64_machine.specs.State.{State}
use Rattle.image_runs.specs.Session.{Calls}
use Rattle.session_host.specs.Answering.{Passed, refs_of, values_of, event_in, given_in, done_if, fitted_if, first_of}
use Rattle.run_session.specs.declared.calling.Outcome.{Outcome}
use Rattle.run_session.specs.declared.calling.Outcome.TheVariants as outcome
use Rattle.run_session.specs.declared.now.Now.TheVariants as now
use Rattle.run_session.specs.Answers.{done_when, fitted_when}
use Rattle.run_session.specs.Outcomes.{CameOut}

-- the values of a call and what is seen of them
pub record Shown (t : Table) (arena : Arena) (p : Passed) (values fields : List Value) : Type 0 where
  pub args : values ≡ values_of t arena p
  pub seen : fields ≡ flat_map (seen_of t (objects_in t arena) p.row.reads) (references (values_of t arena p))

-- the event of a call
abbrev pub event : ℕ → List Value → List Value → Option Value → CallEvent
event f args seen gives = record { function = f; args = args; seen = seen; gives = gives }

event_shown : (t : Table) (arena : Arena) (p : Passed) (args seen : List Value) (gives : Option Value) → Shown t arena p args seen → event p.function args seen gives ≡ event_in t arena p gives
event_shown t arena p args seen gives s =
    ap (λ (xs : List Value). event p.function xs seen gives) s.args ∙ ap (λ (xs : List Value). event p.function (values_of t arena p) xs gives) s.seen

-- a call more in the log, with the answers that are left then
abbrev pub logged : List CallEvent → CallEvent → List Answer → Calls
logged log e answers = record { log = log ++ e ∷ []; answers = answers }

logged_as : (t : Table) (arena : Arena) (p : Passed) (args seen : List Value) (gives : Option Value) (c : Calls) (left : List Answer) → Shown t arena p args seen
    → logged c.log (event p.function args seen gives) left ≡ logged c.log (event_in t arena p gives) left
logged_as t arena p args seen gives c left s = ap (λ (e : CallEvent). logged c.log e left) (event_shown t arena p args seen gives s)

-- no answer is left
pub first_of-None : (t : Table) (p : Passed) (args seen : List Value) (c d : Calls) (s : State) → Shown t s.arena p args seen → slice_get c.answers 0 ≡ None → d ≡ logged c.log (event p.function args seen None) c.answers
    → CameOut (first_of t p c s (slice_get c.answers 0)) now.Waits d s
first_of-None t p args seen c d s shown none e =
    subst (λ (o : Option Answer). CameOut (first_of t p c s o) now.Waits d s) (sym none) (refl, e ∙ logged_as t s.arena p args seen None c c.answers shown)

-- ---- an answer that doesn't fit

no_misfit : (b : Bool) (t : Table) (refs : List ℤ) (a : Answer) (s u : State) → done_when b t refs a s u outcome.Misfit → ⊥
no_misfit true t refs a s u h = (let no : outcome.Misfit ≡ outcome.Done a.gives = h.0 in absurd (cc))
no_misfit false t refs a s u h = (let no : outcome.Misfit ≡ outcome.Full (record { asked = min (fresh_bytes t a.gives) (2 ^ 64 - 1); left = bytes_left s.arena }) = h.0 in absurd (cc))

misfits : (q : Bool) (t : Table) (p : Passed) (args seen : List Value) (a : Answer) (c d : Calls) (s u : State) → Shown t s.arena p args seen → fitted_when q t (refs_of p) a s u outcome.Misfit
    → d ≡ logged c.log (event p.function args seen None) c.answers → CameOut (fitted_if q t p a c s) (now.Misfit (length c.log)) d u
misfits true t p args seen a c d s u shown h e = absurd (no_misfit (nat_le (fresh_bytes t a.gives) (bytes_left s.arena)) t (refs_of p) a s u h)
misfits false t p args seen a c d s u shown h e = (refl, e ∙ logged_as t s.arena p args seen None c c.answers shown)

-- ---- no room for the new object

fills_up : (b : Bool) (t : Table) (p : Passed) (a : Answer) (f : TooFew) (c : Calls) (s u : State) → done_when b t (refs_of p) a s u (outcome.Full f) → CameOut (done_if b t p a c s) (now.ArenaFull f.asked f.left) c u
fills_up true t p a f c s u h = (let no : outcome.Full f ≡ outcome.Done a.gives = h.0 in absurd (cc))
fills_up false t p a f c s u h = (full_now (record { asked = min (fresh_bytes t a.gives) (2 ^ 64 - 1); left = bytes_left s.arena }) h.0, refl)
  where
    full_now : (g : TooFew) → outcome.Full f ≡ outcome.Full g → now.ArenaFull f.asked f.left ≡ now.ArenaFull g.asked g.left
    full_now g e = (let same : f ≡ g = cc in ap (λ (x : TooFew). now.ArenaFull x.asked x.left) same)

fills : (q : Bool) (t : Table) (p : Passed) (a : Answer) (f : TooFew) (c : Calls) (s u : State) → fitted_when q t (refs_of p) a s u (outcome.Full f) → CameOut (fitted_if q t p a c s) (now.ArenaFull f.asked f.left) c u
fills true t p a f c s u h = fills_up (nat_le (fresh_bytes t a.gives) (bytes_left s.arena)) t p a f c s u h
fills false t p a f c s u h = (let no : outcome.Full f ≡ outcome.Misfit = h.0 in absurd (cc))

-- ---- an answer that is done

-- the value that a call gave, by the arena afterwards
abbrev pub Given : Table → Passed → State → Arena → Give → Option Value → Type 0
Given t p s after g x = x ≡ given_in t after (references (values_of t s.arena p)) (pos (0x10000000 + s.arena.taken)) g

does : (b : Bool) (t : Table) (p : Passed) (args seen : List Value) (a : Answer) (g : Give) (x : Option Value) (c d : Calls) (s u : State) → Shown t s.arena p args seen → Given t p s u.arena g x
    → done_when b t (refs_of p) a s u (outcome.Done g) → d ≡ logged c.log (event p.function args seen x) (drop 1 c.answers) → CameOut (done_if b t p a c s) now.Going d u
does true t p args seen a g x c d s u shown gave h e =
    let same : g ≡ a.gives = (let own : outcome.Done g ≡ outcome.Done a.gives = h.0 in cc) in
    let values = references (values_of t s.arena p) in
    let fresh = pos (0x10000000 + s.arena.taken) in
    let after = answered_arena t (refs_of p) a s.arena in
    let arena : u.arena ≡ after = ap (λ (y : State). y.arena) h.1 in
    let value : x ≡ given_in t after values fresh a.gives = gave ∙ ap (λ (y : Arena). given_in t y values fresh g) arena ∙ ap (λ (y : Give). given_in t after values fresh y) same in
    (refl, e ∙ logged_as t s.arena p args seen x c (drop 1 c.answers) shown ∙ ap (λ (y : Option Value). logged c.log (event_in t s.arena p y) (drop 1 c.answers)) value, h.1)
does false t p args seen a g x c d s u shown gave h e =
    let no : outcome.Done g ≡ outcome.Full (record { asked = min (fresh_bytes t a.gives) (2 ^ 64 - 1); left = bytes_left s.arena }) = h.0 in absurd (cc)

done : (q : Bool) (t : Table) (p : Passed) (args seen : List Value) (a : Answer) (g : Give) (x : Option Value) (c d : Calls) (s u : State) → Shown t s.arena p args seen → Given t p s u.arena g x
    → fitted_when q t (refs_of p) a s u (outcome.Done g) → d ≡ logged c.log (event p.function args seen x) (drop 1 c.answers) → CameOut (fitted_if q t p a c s) now.Going d u
done true t p args seen a g x c d s u shown gave h e = does (nat_le (fresh_bytes t a.gives) (bytes_left s.arena)) t p args seen a g x c d s u shown gave h e
done false t p args seen a g x c d s u shown gave h e = (let no : outcome.Done g ≡ outcome.Misfit = h.0 in absurd (cc))

-- ---- the first answer that is left

-- it came so of the words that are references
abbrev pub Answers : Table → Passed → List ℤ → Answer → State → State → Outcome → Type 0
Answers t p refs a s u o = fitted_when (fits_words t p.row refs s.arena a) t refs a s u o

pub first_of-Misfit : (t : Table) (p : Passed) (args seen : List Value) (refs : List ℤ) (a : Answer) (n : ℕ) (c d : Calls) (s u : State) → Shown t s.arena p args seen → refs ≡ refs_of p
    → slice_get c.answers 0 ≡ Some a → n ≡ length c.log → Answers t p refs a s u outcome.Misfit → d ≡ logged c.log (event p.function args seen None) c.answers
    → CameOut (first_of t p c s (slice_get c.answers 0)) (now.Misfit n) d u
first_of-Misfit t p args seen refs a n c d s u shown same some count h e =
    let own = subst (λ (r : List ℤ). Answers t p r a s u outcome.Misfit) same h in
    let came = misfits (fits_words t p.row (refs_of p) s.arena a) t p args seen a c d s u shown own e in
    let told = subst (λ (k : ℕ). CameOut (first_of t p c s (Some a)) (now.Misfit k) d u) (sym count) came in
    subst (λ (o : Option Answer). CameOut (first_of t p c s o) (now.Misfit n) d u) (sym some) told

pub first_of-Full : (t : Table) (p : Passed) (refs : List ℤ) (a : Answer) (f : TooFew) (c d : Calls) (s u : State) → refs ≡ refs_of p → slice_get c.answers 0 ≡ Some a
    → Answers t p refs a s u (outcome.Full f) → d ≡ c → CameOut (first_of t p c s (slice_get c.answers 0)) (now.ArenaFull f.asked f.left) d u
first_of-Full t p refs a f c d s u same some h e =
    let own = subst (λ (r : List ℤ). Answers t p r a s u (outcome.Full f)) same h in
    let came = fills (fits_words t p.row (refs_of p) s.arena a) t p a f c s u own in
    let kept = subst (λ (x : Calls). CameOut (first_of t p c s (Some a)) (now.ArenaFull f.asked f.left) x u) (sym e) came in
    subst (λ (o : Option Answer). CameOut (first_of t p c s o) (now.ArenaFull f.asked f.left) d u) (sym some) kept

pub first_of-Done : (t : Table) (p : Passed) (args seen : List Value) (refs : List ℤ) (a : Answer) (g : Give) (x : Option Value) (c d : Calls) (s u : State) → Shown t s.arena p args seen → refs ≡ refs_of p
    → slice_get c.answers 0 ≡ Some a → Given t p s u.arena g x → Answers t p refs a s u (outcome.Done g) → d ≡ logged c.log (event p.function args seen x) (drop 1 c.answers)
    → CameOut (first_of t p c s (slice_get c.answers 0)) now.Going d u
first_of-Done t p args seen refs a g x c d s u shown same some gave h e =
    let own = subst (λ (r : List ℤ). Answers t p r a s u (outcome.Done g)) same h in
    let came = done (fits_words t p.row (refs_of p) s.arena a) t p args seen a g x c d s u shown gave own e in
    subst (λ (o : Option Answer). CameOut (first_of t p c s o) now.Going d u) (sym some) came
