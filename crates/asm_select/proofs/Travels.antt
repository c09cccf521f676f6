-- A whole piece, with calls of the host in it.
use Rattle.std.proofs.Common.{◌≡◌, ℕ, suc, ◌+◌, List, [], ◌∷◌, ◌++◌, append_assoc, Option, Some, None, refl, sym, ap, ◌∙◌, subst, inl, inr, arith}
use Rattle.std.specs.Prelude.{slice_get}
use Rattle.std.proofs.lemmas.List.{length-append}
use Rattle.trace_ops.specs.declared.code.OpCode.{OpCode}
use Rattle.trace_ops.specs.declared.trace.BoxId.{BoxId}
use Rattle.trace_ops.specs.declared.trace.Arg.{Arg}
use Rattle.trace_ops.specs.declared.trace.Descr.{Descr}
use Rattle.trace_ops.specs.declared.piece.OptOp.{OptOp}
use Rattle.trace_ops.specs.declared.piece.OptOp.TheVariants as opt
use Rattle.trace_meaning.specs.Legs.{Leave, Turn, Fails, Jumps, Finishes, Waits, Misfits, Wrong, On, Off, go_on, drive}
use Rattle.opt_meaning.specs.Step.{Opt, opt_step}
use Rattle.x64_machine.specs.State.{State}
use Rattle.asm_select.specs.declared.form.Access.{Access}
use Rattle.asm_select.specs.declared.form.Access.TheVariants as access
use Rattle.asm_select.specs.declared.told.Told.{Told}
use Rattle.asm_select.specs.Slots.{Slot, Put, size_of, sizes_of}
use Rattle.asm_select.specs.Slots as slots
use Rattle.asm_select.specs.Exited.{AllLead, StretchesGoOn}
use Rattle.guard_exit.specs.Codes.{register}
use Rattle.x64_encode.specs.declared.instr.Instr.TheVariants.{CallReg}
use Rattle.asm_select.specs.Valued.{MayHold}
use Rattle.asm_select.specs.Chosen.{Setting, access_form, told_by, code_of, all_code}
use Rattle.asm_select.specs.Reached.{Reach, AreApart, Holds}
use Rattle.asm_select.specs.Ended.{Counts, ComesTo, Follows, TableServes, loads_of, stores_of, where_on, loads_in, stores_in}
use Rattle.asm_select.specs.Asked.{call_size, returned, IsAskedAs, IsAskedIf, IsAsked, AreSafe, AreChosen, Path, Stops, CallsBy, IsAmong, Trip, arrives, calls, stands, errs, PieceComes}
use Rattle.asm_select.proofs.Steps.{along_on, on_in, join, weaker, sizes-append}
use Rattle.asm_select.proofs.Accessed.{counts_as, loads_by, stores_by}
use Rattle.asm_select.proofs.Follows.{Most, code_follows}
use Rattle.asm_select.proofs.Asking.{calls_follow}
use Rattle.asm_select.proofs.Relying.{Relied}

-- ---- paths

abbrev reach_by : (p : ℕ) (xs : List Slot) (s : State) (ys : List Slot) (q : ℕ) (t : State) → Path p xs s ys q t → Reach p xs s ys (λ u. Unit {0})
reach_by p xs s ys q t f = record { path = f.path; few = f.few; t = t; q = q; comes = f.comes; front = f.front; split = f.split; place = f.place; at = f.at; holds = tt }

path_of : {R : State → Type 0} (p : ℕ) (xs : List Slot) (s : State) (ys : List Slot) (f : Reach p xs s ys R) → Path p xs s ys f.q f.t
path_of p xs s ys f = record { path = f.path; few = f.few; comes = f.comes; front = f.front; split = f.split; place = f.place; at = f.at }

path_on : (p q r : ℕ) (xs ys zs : List Slot) (s t u : State) → Path p xs s ys q t → Path q ys t zs r u → Path p xs s zs r u
path_on p q r xs ys zs s t u f h = record {
  path = f.path ++ h.path;
  few = omega (arith, f.few, h.few, length-append f.path h.path);
  comes = λ by code small l. along_on code f.path h.path s t u (f.comes by code small l) (h.comes by code small (on_in by code p xs ys s (reach_by p xs s ys q t f) l));
  front = f.front ++ h.front;
  split = f.split ∙ ap (λ (l : List Slot). f.front ++ l) h.split ∙ sym (append_assoc f.front h.front zs);
  place = omega (arith, h.place, f.place, sizes-append f.front h.front);
  at = h.at;
}

both : (n m i j a b : ℕ) (x y z : State) → a ≡ n + i → b ≡ m + j → Counts n m x y → Counts i j y z → Counts a b x z
both n m i j a b x y z ea eb f g = record { loads_more = omega (arith, f.loads_more, g.loads_more, ea); stores_more = omega (arith, f.stores_more, g.stores_more, eb) }

-- a run that comes to where a trip begins
ahead : (c : Setting) (k : ℕ) (ops : List OptOp) (l : Leave) (n m i j a b p q : ℕ) (xs ys : List Slot) (s t : State) → a ≡ n + i → b ≡ m + j → Path p xs s ys q t → Counts n m s t → Trip c k ops l i j ys q t → Trip c k ops l a b xs p s
ahead c k ops l n m i j a b p q xs ys s t ea eb f made (arrives _ _ _ _ _ key op is g) =
    arrives a b xs p s key op is (g.0, g.1, weaker p xs (g.0 ∷ g.1) s (λ u x. (x.0, both n m i j a b s t u ea eb made x.1)) (join p xs ys (g.0 ∷ g.1) s (reach_by p xs s ys q t f) g.2))
ahead c k ops l n m i j a b p q xs ys s t ea eb f made (calls _ _ _ _ _ key op env after x y i2 j2 is e ei ej g on) =
    calls a b xs p s key op env after (n + x) (m + y) i2 j2 is e (omega (arith, ea, ei)) (omega (arith, eb, ej))
    (record { q = g.q; u = g.u; rest = g.rest; path = path_on p q g.q xs ys _ s t g.u f g.path; there = g.there; holds = both n m x y (n + x) (m + y) s t g.u refl refl made g.holds }) on
ahead c k ops l n m i j a b p q xs ys s t ea eb f made (stands _ _ _ _ _ key op env is e g) =
    stands a b xs p s key op env is e
    (record { q = g.q; u = g.u; rest = g.rest; path = path_on p q g.q xs ys _ s t g.u f g.path; there = g.there; holds = both n m i j a b s t g.u ea eb made g.holds })
ahead c k ops l n m i j a b p q xs ys s t ea eb f made (errs _ _ _ _ _ w e) = errs a b xs p s w e

-- ---- one operation

count_is : (n a : ℕ) (m b : ℕ) (s t : State) → n ≡ a → m ≡ b → Counts n m s t → Counts a b s t
count_is n a m b s t ea eb g = record { loads_more = omega (arith, ea, g.loads_more); stores_more = omega (arith, eb, g.stores_more) }

comes_as : (n a m b : ℕ) (c : Setting) (k : ℕ) (op : OptOp) (xs : List Slot) (p : ℕ) (s : State) (l : Leave) → n ≡ a → m ≡ b → ComesTo (Counts n m s) c k op xs p s l → ComesTo (Counts a b s) c k op xs p s l
comes_as n a m b c k op xs p s l ea eb g = (g.0, g.1, weaker p xs (g.0 ∷ g.1) s (λ t h. (h.0, count_is n a m b s t ea eb h.1)) g.2)

plus_none : (n : ℕ) → n ≡ n + 0
plus_none n = omega arith

straight : (c : Setting) (k0 : ℕ) (all : List OptOp) (k : ℕ) (told : Told) (op : OptOp) (ops : List OptOp) (n m : ℕ) (loads stores : Opt → ℕ) (p : ℕ) (s : State) (turn : Turn Opt) (next : Opt → Leave) → IsAmong k0 all k op
    → Follows (Counts n m s) c k told op ops (all_code c (k + 1) (told_by op ops) ops) p s turn
    → ((after : Opt) (q : ℕ) (t : State) → Holds c (told_by op ops) ops after t → t.at ≡ 0x40000000 + q → Trip c k0 all (next after) (loads after) (stores after) (all_code c (k + 1) (told_by op ops) ops) q t)
    → Trip c k0 all (go_on turn next) (n + where_on turn loads) (m + where_on turn stores) (all_code c k told (op ∷ ops)) p s
straight c k0 all k told op ops n m loads stores p s (On after) next is f rest =
    let ys = all_code c (k + 1) (told_by op ops) ops in
    let xs = code_of c k told op ops ++ ys in
    ahead c k0 all (next after) n m (loads after) (stores after) (n + loads after) (m + stores after) p f.q xs ys s f.t refl refl (path_of p xs s ys f) f.holds.1 (rest after f.q f.t f.holds.0 f.at)
straight c k0 all k told op ops n m loads stores p s (Off (Fails i vs w)) next is f rest = arrives (n + 0) (m + 0) (all_code c k told (op ∷ ops)) p s k op is (comes_as n (n + 0) m (m + 0) c k op (all_code c k told (op ∷ ops)) p s (Fails i vs w) (plus_none n) (plus_none m) f)
straight c k0 all k told op ops n m loads stores p s (Off (Jumps vs w)) next is f rest = arrives (n + 0) (m + 0) (all_code c k told (op ∷ ops)) p s k op is (comes_as n (n + 0) m (m + 0) c k op (all_code c k told (op ∷ ops)) p s (Jumps vs w) (plus_none n) (plus_none m) f)
straight c k0 all k told op ops n m loads stores p s (Off (Finishes vs w)) next is f rest = arrives (n + 0) (m + 0) (all_code c k told (op ∷ ops)) p s k op is (comes_as n (n + 0) m (m + 0) c k op (all_code c k told (op ∷ ops)) p s (Finishes vs w) (plus_none n) (plus_none m) f)
straight c k0 all k told op ops n m loads stores p s (Off (Waits w)) next is f rest = absurd f
straight c k0 all k told op ops n m loads stores p s (Off (Misfits w)) next is f rest = absurd f
straight c k0 all k told op ops n m loads stores p s (Off (Wrong w)) next is f rest = errs (n + 0) (m + 0) (all_code c k told (op ∷ ops)) p s w refl

stops_as : (n a m b : ℕ) (c : Setting) (op : OptOp) (env : Opt) (xs : List Slot) (p : ℕ) (s : State) → n ≡ a → m ≡ b → Stops (Counts n m s) c op env xs p s → Stops (Counts a b s) c op env xs p s
stops_as n a m b c op env xs p s ea eb g = record { q = g.q; u = g.u; rest = g.rest; path = g.path; there = g.there; holds = count_is n a m b s g.u ea eb g.holds }

-- the host counts no loads and stores
since_return : (s u x t : State) → x.loads ≡ u.loads → x.stores ≡ u.stores → Counts 0 0 s u → Counts 0 0 s t → Counts 0 0 x t
since_return s u x t el es f g = record { loads_more = omega (arith, el, f.loads_more, g.loads_more); stores_more = omega (arith, es, f.stores_more, g.stores_more) }

calling : (c : Setting) (k0 : ℕ) (all : List OptOp) (k : ℕ) (told : Told) (op : OptOp) (ops : List OptOp) (env : Opt) (n m : ℕ) (loads stores : Opt → ℕ) (p : ℕ) (s : State) (turn : Turn Opt) (next : Opt → Leave) → IsAmong k0 all k op → opt_step c.table op env ≡ turn → 0 ≡ n → 0 ≡ m
    → CallsBy (Counts 0 0 s) c op ops (code_of c k told op ops ++ all_code c (k + 1) (told_by op ops) ops) (all_code c (k + 1) (told_by op ops) ops) p s env turn
    → ((after : Opt) (q : ℕ) (t : State) → Holds c (told_by op ops) ops after t → t.at ≡ 0x40000000 + q → Trip c k0 all (next after) (loads after) (stores after) (all_code c (k + 1) (told_by op ops) ops) q t)
    → Trip c k0 all (go_on turn next) (n + where_on turn loads) (m + where_on turn stores) (all_code c k told (op ∷ ops)) p s
calling c k0 all k told op ops env n m loads stores p s (On after) next is e en em (f, resumes) rest =
    let ys = all_code c (k + 1) (told_by op ops) ops in
    calls (n + loads after) (m + stores after) (all_code c k told (op ∷ ops)) p s k op env after 0 0 (loads after) (stores after) is e (omega (arith, en)) (omega (arith, em)) f (λ z lost arena fl small left.
    let g = resumes z lost arena fl small left in
    let behind = returned op f.q f.u z lost arena in
    ahead c k0 all (next after) 0 0 (loads after) (stores after) (loads after) (stores after) (f.q + call_size) g.q f.rest ys behind g.t (omega arith) (omega arith) (path_of (f.q + call_size) f.rest behind ys g) (since_return s f.u behind g.t refl refl f.holds g.holds.1) (rest after g.q g.t g.holds.0 g.at))
calling c k0 all k told op ops env n m loads stores p s (Off (Waits w)) next is e en em f rest = stands (n + 0) (m + 0) (all_code c k told (op ∷ ops)) p s k op env is e (stops_as 0 (n + 0) 0 (m + 0) c op env (all_code c k told (op ∷ ops)) p s (omega (arith, en)) (omega (arith, em)) f)
calling c k0 all k told op ops env n m loads stores p s (Off (Misfits w)) next is e en em f rest = stands (n + 0) (m + 0) (all_code c k told (op ∷ ops)) p s k op env is e (stops_as 0 (n + 0) 0 (m + 0) c op env (all_code c k told (op ∷ ops)) p s (omega (arith, en)) (omega (arith, em)) f)
calling c k0 all k told op ops env n m loads stores p s (Off (Wrong w)) next is e en em f rest = errs (n + 0) (m + 0) (all_code c k told (op ∷ ops)) p s w refl
calling c k0 all k told op ops env n m loads stores p s (Off (Fails i vs w)) next is e en em f rest = absurd f
calling c k0 all k told op ops env n m loads stores p s (Off (Jumps vs w)) next is e en em f rest = absurd f
calling c k0 all k told op ops env n m loads stores p s (Off (Finishes vs w)) next is e en em f rest = absurd f

-- an operation that calls loads and stores nothing
form_counts : (c : Setting) (k : ℕ) (form : Access) (r : Option BoxId) (args : List Arg) (d : Descr) → IsAskedAs c k form r args d → (0 ≡ loads_by form) × (0 ≡ stores_by form)
form_counts c k access.Structure r args d h = (refl, refl)
form_counts c k access.Array r args d h = (refl, refl)
form_counts c k access.Call r args d h = (refl, refl)
form_counts c k _ r args d h = absurd h

plain_counts : (c : Setting) (k : ℕ) (operation : OpCode) (r : Option BoxId) (args : List Arg) (d : Descr) (env : Opt) (o : Option Access) → access_form operation ≡ o → IsAskedIf c k o r args d → (0 ≡ loads_of (opt.Plain operation r args d) env) × (0 ≡ stores_of (opt.Plain operation r args d) env)
plain_counts c k operation r args d env None e h = absurd h
plain_counts c k operation r args d env (Some form) e h =
    let z = counts_as operation form e in
    let y = form_counts c k form r args d h in
    (y.0 ∙ sym z.0, y.1 ∙ sym z.1)

asked_counts : (c : Setting) (k : ℕ) (op : OptOp) (env : Opt) → IsAsked c k op → (0 ≡ loads_of op env) × (0 ≡ stores_of op env)
asked_counts c k (opt.Plain operation r args d) env h = plain_counts c k operation r args d env (access_form operation) refl h
asked_counts c k (opt.Guard operation args n snap) env h = absurd h
asked_counts c k (opt.Exit n snap) env h = absurd h
asked_counts c k (opt.Jump to args) env h = absurd h
asked_counts c k (opt.Finish a) env h = absurd h

-- ---- all of them

abbrev FromHere : List OptOp → ℕ → ℕ → List OptOp → Type 0
FromHere all k0 k ops = (j : ℕ) (op : OptOp) → slice_get ops j ≡ Some op → IsAmong k0 all (k + j) op

first_here : (all : List OptOp) (k0 k : ℕ) (op : OptOp) (ops : List OptOp) → FromHere all k0 k (op ∷ ops) → IsAmong k0 all k op
first_here all k0 k op ops h = (let e : k + 0 ≡ k = omega arith in subst (λ (n : ℕ). IsAmong k0 all n op) e (h 0 op refl))

rest_here : (all : List OptOp) (k0 k : ℕ) (op : OptOp) (ops : List OptOp) → FromHere all k0 k (op ∷ ops) → FromHere all k0 (k + 1) ops
rest_here all k0 k op ops h j x g = (let e : k + suc j ≡ k + 1 + j = omega arith in subst (λ (n : ℕ). IsAmong k0 all n x) e (h (suc j) x g))

travels : Most → Relied → (c : Setting) (k0 : ℕ) (all : List OptOp) (k : ℕ) (told : Told) (ops : List OptOp) (env : Opt) (p : ℕ) (s : State)
    → FromHere all k0 k ops → TableServes c.table → ((b : ℕ) → MayHold (c.at b)) → AreApart c.at ops → AreSafe c.at ops → AreChosen c k told ops
    → Holds c told ops env s → s.at ≡ 0x40000000 + p
    → Trip c k0 all (drive (opt_step c.table) (λ (x : Opt). x.world) ops env) (loads_in c.table ops env) (stores_in c.table ops env) (all_code c k told ops) p s
travels most relied c k0 all k told [] env p s from table m apart safe chosen h at = errs 0 0 [] p s env.world refl
travels most relied c k0 all k told (op ∷ ops) env p s from table m apart safe (inl here, w, chosen) h at =
    straight c k0 all k told op ops (loads_of op env) (stores_of op env) (loads_in c.table ops) (stores_in c.table ops) p s (opt_step c.table op env) (drive (opt_step c.table) (λ (x : Opt). x.world) ops) (first_here all k0 k op ops from)
    (code_follows most relied c k told op ops env (all_code c (k + 1) (told_by op ops) ops) p s table m apart.0 w here h at)
    (λ after q t held come. travels most relied c k0 all (k + 1) (told_by op ops) ops after q t (rest_here all k0 k op ops from) table m apart.1 safe.1 chosen held come)
travels most relied c k0 all k told (op ∷ ops) env p s from table m apart safe (inr asked, w, chosen) h at =
    let z = asked_counts c k op env asked in
    calling c k0 all k told op ops env (loads_of op env) (stores_of op env) (loads_in c.table ops) (stores_in c.table ops) p s (opt_step c.table op env) (drive (opt_step c.table) (λ (x : Opt). x.world) ops) (first_here all k0 k op ops from) refl z.0 z.1
    (calls_follow c k told op ops env (all_code c (k + 1) (told_by op ops) ops) p s table m apart.0 safe.0 w asked h at)
    (λ after q t held come. travels most relied c k0 all (k + 1) (told_by op ops) ops after q t (rest_here all k0 k op ops from) table m apart.1 safe.1 chosen held come)

pub piece_comes : Most → Relied → PieceComes
piece_comes most relied c k told ops env p s table m apart safe chosen h at =
    travels most relied c k ops k told ops env p s (λ j op e. (j, e, refl)) table m apart safe chosen h at

-- ---- a stretch in a code

lead_right : (by : slots.Jumps) (to : ℕ → ℕ) (p : ℕ) (xs ys : List Slot) → AllLead by to p (xs ++ ys) → AllLead by to (p + sizes_of xs) ys
lead_right by to p [] ys l =
    let n : p + 0 ≡ p = omega arith in
    subst (λ (k : ℕ). AllLead by to k ys) (sym n) l
lead_right by to p (x ∷ xs) ys l =
    let n : p + size_of x + sizes_of xs ≡ p + (size_of x + sizes_of xs) = omega arith in
    subst (λ (k : ℕ). AllLead by to k ys) n (lead_right by to (p + size_of x) xs ys l.1)

pub stretches_go_on : StretchesGoOn
stretches_go_on by code to p q xs rest s u f l lead =
    let ys = Put (CallReg (register 11)) ∷ rest in
    let here = on_in by code p xs ys s (reach_by p xs s ys q u f) l in
    let leads : AllLead by to q ys = subst (λ (k : ℕ). AllLead by to k ys) (sym f.place) (lead_right by to p f.front ys (subst (AllLead by to p) f.split lead)) in
    (here.0, here.1, leads.1)
