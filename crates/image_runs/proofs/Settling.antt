-- Operations without instructions are passed, until an instruction is ahead.
use Rattle.std.proofs.Common.{◌≡◌, ℕ, suc, ◌+◌, ◌≤◌, List, [], ◌∷◌, ◌++◌, length, append_assoc, refl, sym, ap, ◌∙◌, subst, inl, inr, arith, Option, Some}
use Rattle.std.specs.List.{Contains, AllByRecursion}
use Rattle.std.proofs.lemmas.List.{length-append}
use Rattle.x64_encode.specs.declared.instr.Instr.TheVariants as instr
use Rattle.x64_machine.specs.State.{State}
use Rattle.asm_select.specs.Slots.{Slot, Put, sizes_of}
use Rattle.trace_meaning.specs.Legs.{Leave, Fails, Jumps, Finishes, Waits, Misfits, Wrong, Turn, On, Off, go_on, drive, In, Over, run, settle, land}
use Rattle.trace_ops.specs.declared.piece.PieceId.{PieceId}
use Rattle.trace_ops.specs.declared.piece.OptOp.{OptOp}
use Rattle.opt_meaning.specs.Step.{Opt, opt_step}
use Rattle.trace_meaning.specs.Cuts.{Cuts}
use Rattle.image_runs.specs.Runs.{PieceProgram, Steady}
use Rattle.opt_meaning.specs.Pieces.{pieces, PiecesNow, ops_at}
use Rattle.image_runs.specs.Session.{Calls}
use Rattle.guard_exit.specs.declared.row.ExitRow.{ExitRow}
use Rattle.image_runs.specs.Reached.{Comes, IsSpot}
use Rattle.asm_select.specs.Ended.{IsTaken}
use Rattle.image_runs.specs.Selection.{Model, Placed, At, AtCall, ComesOff, CallsHost, Does, joined, code_of, start_of}
use Rattle.image_runs.specs.Image.{Image, code_in, HasSlots, IsImage}
use Rattle.image_runs.specs.Standing.{Way, Walking}
use Rattle.image_runs.specs.Kept.{rest_of, StaysOpen, Ready, Ahead, Slots, Hosts, Lost, Settled}
use Rattle.image_runs.proofs.Ways.{has_inside, in_code, way_reached, spots_reached}
use Rattle.image_runs.specs.Relying.{Relies}
use Rattle.image_runs.proofs.Bytes.{sizes-append}

pub joined-append : (xs ys : List (List Slot)) → joined (xs ++ ys) ≡ joined xs ++ joined ys
joined-append [] ys = refl
joined-append (x ∷ xs) ys = ap (λ (l : List Slot). x ++ l) (joined-append xs ys) ∙ sym (append_assoc x (joined xs) (joined ys))

-- an operation in its piece
pub record Spot (m : Model) (pl : Placed) (op : OptOp) (rest : List OptOp) : Type 0 where
  pub done : List OptOp
  pub before : List (List Slot)
  pub xs : List Slot
  pub more : List (List Slot)
  pub ops : ops_at m.pieces pl.id ≡ done ++ op ∷ rest
  pub codes : pl.codes ≡ before ++ xs ∷ more
  pub same : length done ≡ length before
  pub ahead : length rest ≡ length more

spot_with : (m : Model) (pl : Placed) (op : OptOp) (rest : List OptOp) (done : List OptOp) (before more : List (List Slot)) → ops_at m.pieces pl.id ≡ done ++ op ∷ rest → pl.codes ≡ before ++ more → length done ≡ length before → length (op ∷ rest) ≡ length more → (z : Spot m pl op rest) × (z.before ≡ before) × (joined more ≡ z.xs ++ joined z.more)
spot_with m pl op rest done before [] ops codes same ahead = absurd (omega (arith, ahead))
spot_with m pl op rest done before (xs ∷ more) ops codes same ahead =
    (record { done = done; before = before; xs = xs; more = more; ops = ops; codes = codes; same = same; ahead = omega (arith, ahead) }, refl, refl)

abbrev pub place_of : {m : Model} {op : OptOp} {rest : List OptOp} (pl : Placed) → Spot m pl op rest → ℕ
place_of pl z = start_of pl + sizes_of (joined z.before)

abbrev pub prog : Model → Cuts → PieceProgram
prog m cuts = pieces m.set m.pieces cuts

abbrev pub next_at : (m : Model) (pl : Placed) (op : OptOp) (rest : List OptOp) → Spot m pl op rest → At m pl rest
next_at m pl op rest z = record {
  done = z.done ++ op ∷ [];
  before = z.before ++ z.xs ∷ [];
  more = z.more;
  ops = z.ops ∙ sym (append_assoc z.done (op ∷ []) rest);
  codes = z.codes ∙ sym (append_assoc z.before (z.xs ∷ []) z.more);
  same = omega (arith, length-append z.done (op ∷ []), length-append z.before (z.xs ∷ []), z.same);
  ahead = z.ahead;
}

pub next_size : (before : List (List Slot)) (xs : List Slot) → sizes_of (joined (before ++ xs ∷ [])) ≡ sizes_of (joined before) + sizes_of xs
next_size before xs = ap sizes_of (joined-append before (xs ∷ [])) ∙ sizes-append (joined before) (xs ++ []) ∙ omega (arith, sizes-append xs [])

-- what a run comes to behind the slots of an operation stands behind them
pub behind : (xs front ys : List Slot) → xs ++ ys ≡ front ++ ys → sizes_of front ≡ sizes_of xs
behind xs front ys e = omega (arith, ap sizes_of e, sizes-append xs ys, sizes-append front ys)

pub spot_stands : (m : Model) (g : Image) (bs : List ℕ) (rows : List ExitRow) → IsImage m g bs rows → (pl : Placed) → Contains g.placed pl → (op : OptOp) (rest : List OptOp) (z : Spot m pl op rest) → HasSlots g.slots (place_of pl z) (z.xs ++ joined z.more)
spot_stands m g bs rows image pl there op rest z =
    let whole = (image.pieces pl there).here in
    let shape : code_of pl ≡ (pl.moves ++ joined z.before) ++ (z.xs ++ joined z.more) = ap (λ (l : List (List Slot)). pl.moves ++ joined l) z.codes ∙ ap (λ (l : List Slot). pl.moves ++ l) (joined-append z.before (z.xs ∷ z.more)) ∙ sym (append_assoc pl.moves (joined z.before) (z.xs ++ joined z.more)) in
    let h = has_inside g.slots pl.at (code_of pl) (pl.moves ++ joined z.before) (z.xs ++ joined z.more) whole shape in
    let n : pl.at + sizes_of (pl.moves ++ joined z.before) ≡ place_of pl z = omega (arith, sizes-append pl.moves (joined z.before)) in
    subst (λ (k : ℕ). HasSlots g.slots k (z.xs ++ joined z.more)) n h

abbrev pub some_rest : PieceId → Leave → Option (PieceId × Leave)
some_rest q l = Some (q, l)

pub passes : (a : PieceProgram) (x y z : PiecesNow) → rest_of a y ≡ rest_of a x → StaysOpen a y z → StaysOpen a x z
passes a x y z e (inl h) = inl (h ∙ e)
passes a x y z e (inr h) = inr h

module _ (law : Relies) (m : Model) (g : Image) (bs : List ℕ) (rows : List ExitRow) (image : IsImage m g bs rows) (cuts : Cuts) (steady : Steady (prog m cuts)) where
  abbrev Later : Placed → OptOp → List OptOp → Opt → Calls → State → (before more : List (List Slot)) → List Slot → ℕ → Type 0
  Later pl op rest env c s before more xs todo =
      (u : Opt) → opt_step m.set.table op env ≡ On u → s.at ≡ 0x40000000 + (start_of pl + sizes_of (joined (before ++ xs ∷ []))) → m.holds pl.id (length (before ++ xs ∷ [])) u c s → length (joined more) ≤ todo → Settled m g (prog m cuts) (In pl.id rest u) c s todo

  -- the operation was passed
  passed : (q : PieceId) (op : OptOp) (rest : List OptOp) (env u : Opt) (c : Calls) (s : State) (todo : ℕ) → opt_step m.set.table op env ≡ On u → Settled m g (prog m cuts) (In q rest u) c s todo → Settled m g (prog m cuts) (In q (op ∷ rest) env) c s todo
  passed q op rest env u c s todo e h =
      let a = prog m cuts in record {
        n = suc h.n;
        y = h.y;
        ran = ap (λ (t : Turn Opt). run a h.n (settle a q rest t)) e ∙ h.ran;
        leg = h.leg ∙ ap (λ (t : Turn Opt). land a q (go_on t (drive a.step a.world rest))) (sym e);
        stays = passes a (In q (op ∷ rest) env) (In q rest u) h.y (ap (λ (t : Turn Opt). some_rest q (go_on t (drive a.step a.world rest))) (sym e)) h.stays;
        failures = h.failures ∙ steady.goes op env u e;
        ready = h.ready;
      }

  here : (q : PieceId) (op : OptOp) (rest : List OptOp) (env : Opt) (c : Calls) (s : State) (todo : ℕ) → Ready m g (In q (op ∷ rest) env) c s todo → Settled m g (prog m cuts) (In q (op ∷ rest) env) c s todo
  here q op rest env c s todo r = record { n = 0; y = In q (op ∷ rest) env; ran = refl; leg = refl; stays = inl refl; failures = refl; ready = r }

  not_last : (pl : Placed) → Contains g.placed pl → (op : OptOp) (rest done : List OptOp) (env u : Opt) → ops_at m.pieces pl.id ≡ done ++ op ∷ rest → opt_step m.set.table op env ≡ On u → (o : OptOp) × (ops : List OptOp) × (rest ≡ o ∷ ops)
  not_last pl there op [] done env u ops e = absurd ((image.pieces pl there).does.ends done op env u ops e)
  not_last pl there op (o ∷ rest) done env u ops e = (o, rest, refl)

  -- on the way behind an operation
  pub walks : (pl : Placed) → Contains g.placed pl → (op : OptOp) (rest : List OptOp) (env u : Opt) (c : Calls) (s t : State) (path : List State) (todo : ℕ) (z : Spot m pl op rest) → opt_step m.set.table op env ≡ On u → Way g.slots path s t → t.at ≡ 0x40000000 + (start_of pl + sizes_of (joined (z.before ++ z.xs ∷ []))) → m.holds pl.id (length (z.before ++ z.xs ∷ [])) u c t → length path + length (joined z.more) ≤ todo → (m.followed → AllByRecursion (IsSpot 0 g.slots) (s ∷ path)) → Walking m g (In pl.id rest u) c s path todo
  walks pl there op rest env u c s t path todo z e way at holds few spots = record {
    pl = pl;
    there = there;
    rest = rest;
    env = u;
    now = refl;
    some = not_last pl there op rest z.done env u z.ops e;
    spot = next_at m pl op rest z;
    t = t;
    way = way;
    spots = spots;
    at = at;
    holds = holds;
    few = few;
  }

  next_length : (before : List (List Slot)) (xs : List Slot) → length before + 1 ≡ length (before ++ xs ∷ [])
  next_length before xs = omega (arith, length-append before (xs ∷ []))

  went_on : (pl : Placed) → Contains g.placed pl → (op : OptOp) (rest : List OptOp) (env u : Opt) (c : Calls) (s : State) (todo : ℕ) (z : Spot m pl op rest) → s.at ≡ 0x40000000 + place_of pl z → opt_step m.set.table op env ≡ On u → length (z.xs ++ joined z.more) ≤ todo → Later pl op rest env c s z.before z.more z.xs todo
      → (r : Comes m.followed (place_of pl z) (z.xs ++ joined z.more) s (joined z.more) (λ t. m.holds pl.id (length z.before + 1) u c t)) → (path : List State) → r.run.path ≡ path → Settled m g (prog m cuts) (In pl.id (op ∷ rest) env) c s todo
  went_on pl there op rest env u c s todo z stand e few later r path is =
      let has = spot_stands m g bs rows image pl there op rest z in
      let way : Way g.slots path s r.run.t = subst (λ (l : List State). Way g.slots l s r.run.t) is (way_reached g.slots (place_of pl z) (z.xs ++ joined z.more) (joined z.more) s has r) in
      let at : r.run.t.at ≡ 0x40000000 + (start_of pl + sizes_of (joined (z.before ++ z.xs ∷ []))) = omega (arith, r.run.at, r.run.place, behind z.xs r.run.front (joined z.more) r.run.split, next_size z.before z.xs) in
      let holds : m.holds pl.id (length (z.before ++ z.xs ∷ [])) u c r.run.t = subst (λ (n : ℕ). m.holds pl.id n u c r.run.t) (next_length z.before z.xs) r.run.holds in
      let fits : length path + length (joined z.more) ≤ todo = omega (arith, r.run.few, ap length is, few) in
      goes path way (subst (λ (l : List State). m.followed → AllByRecursion (IsSpot 0 g.slots) (s ∷ l)) is (spots_reached g.slots (place_of pl z) (z.xs ++ joined z.more) (joined z.more) s has stand r)) at holds fits
    where
      goes : (path : List State) → Way g.slots path s r.run.t → (m.followed → AllByRecursion (IsSpot 0 g.slots) (s ∷ path)) → r.run.t.at ≡ 0x40000000 + (start_of pl + sizes_of (joined (z.before ++ z.xs ∷ []))) → m.holds pl.id (length (z.before ++ z.xs ∷ [])) u c r.run.t → length path + length (joined z.more) ≤ todo → Settled m g (prog m cuts) (In pl.id (op ∷ rest) env) c s todo
      goes [] way spots at holds fits =
          let same : s ≡ r.run.t = way g.by (code_in g) image.small (in_code law g.by g.slots image.have) in
          passed pl.id op rest env u c s todo e (later u e (ap (λ (x : State). x.at) same ∙ at) (subst (λ (x : State). m.holds pl.id (length (z.before ++ z.xs ∷ [])) u c x) (sym same) holds) (omega (arith, fits)))
      goes (w ∷ path) way spots at holds fits =
          passed pl.id op rest env u c s todo e (record { n = 0; y = In pl.id rest u; ran = refl; leg = refl; stays = inl refl; failures = refl; ready = Ahead w path (walks pl there op rest env u c s r.run.t (w ∷ path) todo z e way at holds fits spots) })

  asks : (pl : Placed) → Contains g.placed pl → (op : OptOp) (rest : List OptOp) (env : Opt) (c : Calls) (s : State) (todo : ℕ) (z : Spot m pl op rest) → s.at ≡ 0x40000000 + place_of pl z → length (z.xs ++ joined z.more) ≤ todo → m.called env.world c
      → (t : Turn Opt) → opt_step m.set.table op env ≡ t → CallsHost m pl (length z.before) (z.xs ++ joined z.more) (joined z.more) (place_of pl z) s c env.world t → Settled m g (prog m cuts) (In pl.id (op ∷ rest) env) c s todo
  asks pl there op rest env c s todo z stand few told t e h =
      let has = spot_stands m g bs rows image pl there op rest z in
      let r = h.reach in
      let stands = has_inside g.slots (place_of pl z) (z.xs ++ joined z.more) r.run.front (Put (instr.CallReg h.register) ∷ h.rest) has r.run.split in
      let q : r.run.holds.0 ≡ place_of pl z + sizes_of r.run.front = omega (arith, r.run.at, r.run.place, r.run.holds.1) in
      here pl.id op rest env c s todo (Hosts r.run.path (record {
        pl = pl;
        there = there;
        op = op;
        rest = rest;
        env = env;
        now = refl;
        done = z.done;
        before = z.before;
        xs = z.xs;
        more = z.more;
        ops = z.ops;
        codes = z.codes;
        same = z.same;
        ahead = z.ahead;
        told = told;
        register = h.register;
        behind = h.rest;
        t = r.run.t;
        q = r.run.holds.0;
        way = way_reached g.slots (place_of pl z) (z.xs ++ joined z.more) (Put (instr.CallReg h.register) ∷ h.rest) s has r;
        spots = spots_reached g.slots (place_of pl z) (z.xs ++ joined z.more) (Put (instr.CallReg h.register) ∷ h.rest) s has stand r;
        at = r.run.holds.1;
        stands = subst (λ (k : ℕ). HasSlots g.slots k (Put (instr.CallReg h.register) ∷ h.rest)) (sym q) stands;
        meets = omega (arith, q, next_size z.before z.xs, ap sizes_of r.run.split, sizes-append z.xs (joined z.more), sizes-append r.run.front (Put (instr.CallReg h.register) ∷ h.rest));
        call = subst (λ (x : Turn Opt). AtCall m pl (length z.before) h.register h.rest (joined z.more) env.world x c r.run.holds.0 r.run.t) (sym e) r.run.holds.2;
        few = omega (arith, r.run.few, few);
      }))

  comes : (pl : Placed) → Contains g.placed pl → (op : OptOp) (rest : List OptOp) (env : Opt) (c : Calls) (s : State) (todo : ℕ) (z : Spot m pl op rest) → s.at ≡ 0x40000000 + place_of pl z → length (z.xs ++ joined z.more) ≤ todo → m.called env.world c
      → (l : Leave) → opt_step m.set.table op env ≡ Off l → ComesOff m pl (length z.before) op (z.xs ++ joined z.more) (place_of pl z) s c l → Settled m g (prog m cuts) (In pl.id (op ∷ rest) env) c s todo
  comes pl there op rest env c s todo z stand few told l e h =
      let has = spot_stands m g bs rows image pl there op rest z in
      let r = h.reach in
      let stands = has_inside g.slots (place_of pl z) (z.xs ++ joined z.more) r.run.front (h.slot ∷ h.behind) has r.run.split in
      here pl.id op rest env c s todo (Slots r.run.path (record {
        pl = pl;
        there = there;
        op = op;
        rest = rest;
        env = env;
        now = refl;
        done = z.done;
        ops = z.ops;
        leave = l;
        off = e;
        told = told;
        kind = h.kind;
        front = stands.0;
        slot = h.slot;
        behind = h.behind ++ stands.1;
        split = stands.2;
        t = r.run.t;
        way = way_reached g.slots (place_of pl z) (z.xs ++ joined z.more) (h.slot ∷ h.behind) s has r;
        spots = spots_reached g.slots (place_of pl z) (z.xs ++ joined z.more) (h.slot ∷ h.behind) s has stand r;
        at = omega (arith, r.run.at, r.run.place, stands.3);
        taken = subst (λ (n : ℕ). IsTaken (pl.key + n) h.slot r.run.t) (sym z.same) r.run.holds.0;
        left = subst (λ (n : ℕ). m.left pl.id n l c r.run.t) (sym z.same) r.run.holds.1;
        few = omega (arith, r.run.few, few);
      }))

  turned : (pl : Placed) → Contains g.placed pl → (op : OptOp) (rest : List OptOp) (env : Opt) (c : Calls) (s : State) (todo : ℕ) (z : Spot m pl op rest) → s.at ≡ 0x40000000 + place_of pl z → length (z.xs ++ joined z.more) ≤ todo → m.called env.world c → Later pl op rest env c s z.before z.more z.xs todo
      → (t : Turn Opt) → opt_step m.set.table op env ≡ t → Does m pl (length z.before) op (z.xs ++ joined z.more) (joined z.more) (place_of pl z) s c env.world t → Settled m g (prog m cuts) (In pl.id (op ∷ rest) env) c s todo
  turned pl there op rest env c s todo z stand few told later (On u) e (inl r) = went_on pl there op rest env u c s todo z stand e few later r r.run.path refl
  turned pl there op rest env c s todo z stand few told later (On u) e (inr h) = asks pl there op rest env c s todo z stand few told (On u) e h
  turned pl there op rest env c s todo z stand few told later (Off (Fails n vs w)) e h = comes pl there op rest env c s todo z stand few told (Fails n vs w) e h
  turned pl there op rest env c s todo z stand few told later (Off (Jumps vs w)) e h = comes pl there op rest env c s todo z stand few told (Jumps vs w) e h
  turned pl there op rest env c s todo z stand few told later (Off (Finishes vs w)) e h = comes pl there op rest env c s todo z stand few told (Finishes vs w) e h
  turned pl there op rest env c s todo z stand few told later (Off (Waits w)) e h = asks pl there op rest env c s todo z stand few told (Off (Waits w)) e h
  turned pl there op rest env c s todo z stand few told later (Off (Misfits w)) e h = asks pl there op rest env c s todo z stand few told (Off (Misfits w)) e h
  turned pl there op rest env c s todo z stand few told later (Off (Wrong w)) e h =
      let a = prog m cuts in record {
        n = 1;
        y = Over pl.id (Wrong w);
        ran = ap (λ (t : Turn Opt). settle a pl.id rest t) e;
        leg = ap (λ (t : Turn Opt). land a pl.id (go_on t (drive a.step a.world rest))) (sym e);
        stays = inr refl;
        failures = steady.leaves op env (Wrong w) e;
        ready = Lost pl.id w refl;
      }

  at_op : (pl : Placed) → Contains g.placed pl → (op : OptOp) (rest : List OptOp) (env : Opt) (c : Calls) (s : State) (todo : ℕ) (z : Spot m pl op rest) → s.at ≡ 0x40000000 + place_of pl z → m.holds pl.id (length z.before) env c s → length (z.xs ++ joined z.more) ≤ todo → Settled m g (prog m cuts) (In pl.id (op ∷ rest) env) c s todo
  at_op pl there op [] env c s todo z at holds few =
      turned pl there op [] env c s todo z at few (m.tells pl.id (length z.before) env c s holds) (λ u e n h f. absurd ((image.pieces pl there).does.ends z.done op env u z.ops e))
      (opt_step m.set.table op env) refl ((image.pieces pl there).does.each z.done [] op z.before z.more z.xs env c s z.ops z.codes z.same holds at)
  at_op pl there op (o ∷ rest) env c s todo z at holds few =
      let n = next_at m pl op (o ∷ rest) z in
      let y = spot_with m pl o rest n.done n.before n.more n.ops n.codes n.same n.ahead in
      turned pl there op (o ∷ rest) env c s todo z at few (m.tells pl.id (length z.before) env c s holds) (λ u e at2 h f.
      at_op pl there o rest u c s todo y.0
      (at2 ∙ ap (λ (l : List (List Slot)). 0x40000000 + (start_of pl + sizes_of (joined l))) (sym y.1))
      (subst (λ (l : List (List Slot)). m.holds pl.id (length l) u c s) (sym y.1) h)
      (omega (arith, f, ap length y.2)))
      (opt_step m.set.table op env) refl ((image.pieces pl there).does.each z.done (o ∷ rest) op z.before z.more z.xs env c s z.ops z.codes z.same holds at)

  -- an activation that stands in front of an operation
  pub settles : (x : PiecesNow) (c : Calls) (s : State) (todo : ℕ) → Walking m g x c s [] todo → Settled m g (prog m cuts) x c s todo
  settles x c s todo w =
      let same : s ≡ w.t = w.way g.by (code_in g) image.small (in_code law g.by g.slots image.have) in
      let op = w.some.0 in
      let ops = w.some.1 in
      let z = spot_with m w.pl op ops w.spot.done w.spot.before w.spot.more (subst (λ (l : List OptOp). ops_at m.pieces w.pl.id ≡ w.spot.done ++ l) w.some.2 w.spot.ops) w.spot.codes w.spot.same (ap length (sym w.some.2) ∙ w.spot.ahead) in
      let now : x ≡ In w.pl.id (op ∷ ops) w.env = w.now ∙ ap (λ (l : List OptOp). In w.pl.id l w.env) w.some.2 in
      subst (λ (y : PiecesNow). Settled m g (prog m cuts) y c s todo) (sym now)
      (at_op w.pl w.there op ops w.env c s todo z.0
      (ap (λ (y : State). y.at) same ∙ w.at ∙ ap (λ (l : List (List Slot)). 0x40000000 + (start_of w.pl + sizes_of (joined l))) (sym z.1))
      (subst (λ (l : List (List Slot)). m.holds w.pl.id (length l) w.env c s) (sym z.1) (subst (λ (y : State). m.holds w.pl.id (length w.spot.before) w.env c y) (sym same) w.holds))
      (omega (arith, w.few, ap length z.2)))
