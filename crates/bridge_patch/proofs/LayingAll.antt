-- Laying out all pieces of loops, one behind the other.
use Rattle.std.proofs.Common.{◌≡◌, ℕ, suc, ◌+◌, ◌*◌, ◌<◌, ◌≤◌, ◌^◌, cond, List, [], ◌∷◌, ◌++◌, length, take, drop, get_or, refl, sym, ap, ◌∙◌, subst, arith, append-nil, length-append, length-drop}
use Rattle.std.specs.Borrow.{Bor}
use Rattle.std.proofs.lemmas.List.{take-append-drop}
use Rattle.bridge_patch.proofs.Lists.{front_of, drop_map}
use Rattle.std.specs.Prelude.{map, slice_get, Some}
use Rattle.std.specs.List.{AllByRecursion, AllZip}
use Rattle.trace_ops.specs.declared.trace.Arg.{Arg}
use Rattle.trace_ops.specs.declared.trace.BoxId.{BoxId}
use Rattle.trace_ops.specs.Weights.{trace_weight}
use Rattle.target_base.specs.declared.place.Place.{Place}
use Rattle.linear_scan.specs.Placing.{words_used}
use Rattle.bridge_patch.specs.Attached.{IsStanding, words_for}
use Rattle.bridge_patch.proofs.Labels.{words_long, words_few}
use Rattle.bridge_patch.proofs.Plans.{label_few}
use Rattle.trace_ops.specs.declared.trace.TraceSet.{TraceSet}
use Rattle.trace_ops.specs.declared.piece.PieceId.{PieceId}
use Rattle.trace_ops.specs.declared.piece.OptOp.{OptOp}
use Rattle.trace_ops.specs.declared.piece.OptOp.TheVariants as opt
use Rattle.trace_ops.specs.declared.piece.Piece.{Piece}
use Rattle.trace_ops.specs.Pieces.{size_of}
use Rattle.x64_encode.specs.declared.instr.Instr.{Instr}
use Rattle.opt_meaning.specs.Pieces.{same_piece}
use Rattle.guard_exit.specs.declared.row.ExitRow.{ExitRow}
use Rattle.guard_exit.specs.Codes.{common_code}
use Rattle.resume_numbering.specs.Conditions.{CanNumber, SoundPiecesCanBeNumbered}
use Rattle.asm_select.specs.Given.{where_in}
use Rattle.code_layout.specs.Emitting.{total_size, noted, listed}
use Rattle.bridge_patch.specs.declared.plan.Plan.{Plan}
use Rattle.bridge_patch.specs.declared.image.PieceHere.{PieceHere}
use Rattle.bridge_patch.specs.declared.laying.Laid.{Laid}
use Rattle.bridge_patch.specs.Pieces.{Placed, start_of, spelled, exits_in, IsChosen, start_in, Leads, AllLead, place_among, rows_from, loop_front, label_places, label_at, stub_of}
use Rattle.bridge_patch.specs.Image.{AreHere}
use Rattle.bridge_patch.specs.Planning.{CanPlan, IsReady, IsHereOf, ArePlanned, StartsBelow, starts_of, planned_start, jump_count, target_of, targets_from, AllTargets, laid_bytes, room_for, can_all}
use Rattle.bridge_patch.specs.Laid.{IsLaid}
use Rattle.bridge_patch.proofs.Planned.{front_short}
use Rattle.bridge_patch.proofs.Building.{Laws, MadeLoop, MadeAll, stands, Built, built_more, piece_long}

pub record LaysAll (set : TraceSet) (registers : ℕ) (all done rest : List Piece) (plans xdone xrest : List Plan) (from : ℕ) (bytes : List ℕ) (rows : List ExitRow) (heres : List PieceHere) : Type 0 where
  pub at : ℕ
  pub exit : ℕ
  pub end : ℕ
  pub last : ℕ
  pub from_zero : from ≡ 0
  pub place : length bytes ≡ at
  pub planned : ArePlanned set registers at exit rest xrest end last
  pub built : Built set registers (planned_start plans) done xdone heres bytes rows at exit
  pub room : at + room_for rest ≤ 49 + room_for all
  pub exits : 16 * exit ≤ at
  pub can : can_all set registers rest
  pub starts : StartsBelow (starts_of plans)
  pub limit : 49 + room_for all < 2 ^ 30

pub begin : (set : TraceSet) (registers : ℕ) (all : List Piece) (plans : List Plan) (from end last : ℕ) (bytes : List ℕ) (rows : List ExitRow) (heres : List PieceHere)
    → from ≡ 0 → bytes ≡ spelled common_code → rows ≡ [] → heres ≡ [] → ArePlanned set registers 49 0 all plans end last → can_all set registers all → StartsBelow (starts_of plans) → 49 + room_for all < 2 ^ 30
    → LaysAll set registers all [] all plans [] plans from bytes rows heres
begin set registers all plans from end last bytes rows heres f b r h p can starts limit = record {
  at = 49;
  exit = 0;
  end = end;
  last = last;
  from_zero = f;
  place = ap length b;
  planned = p;
  built = record {
    placed = [];
    made = subst (λ (l : List PieceHere). MadeAll set registers (planned_start plans) [] [] l []) (sym h) tt;
    laid = (refl, refl);
    bytes_so = b;
    rows_so = r;
  };
  room = omega arith;
  exits = omega arith;
  can = can;
  starts = starts;
  limit = limit;
}

some_plan : (set : TraceSet) (registers at exit end last : ℕ) (p : Piece) (ps : List Piece) (xs : List Plan) → ArePlanned set registers at exit (p ∷ ps) xs end last → 0 < length xs
some_plan set registers at exit end last p ps [] h = absurd h
some_plan set registers at exit end last p ps (x ∷ xs) h = omega arith

pub has_plan : (set : TraceSet) (registers at exit end last k : ℕ) (p : Piece) (ps : List Piece) (xs : List Plan) → ArePlanned set registers at exit (p ∷ ps) (drop k xs) end last → k < length xs
has_plan set registers at exit end last k p ps xs h = omega (arith, some_plan set registers at exit end last p ps (drop k xs) h, length-drop k xs)

-- what holds of the next piece
pub record Next (set : TraceSet) (registers : ℕ) (p : Piece) (x : Plan) (from : ℕ) (bytes : List ℕ) : Type 0 where
  pub ready : IsReady p x
  pub place : from + length bytes ≡ x.at
  pub room : x.at + 64 + 32 * size_of p + 64 < 2 ^ 31
  pub few : 16 * x.exit ≤ x.at
  pub number : CanNumber p

pub next : SoundPiecesCanBeNumbered → (set : TraceSet) (registers : ℕ) (all done rest : List Piece) (plans xdone xrest : List Plan) (p : Piece) (x : Plan) (from : ℕ) (bytes : List ℕ) (rows : List ExitRow) (heres : List PieceHere)
    → LaysAll set registers all done (p ∷ rest) plans xdone (x ∷ xrest) from bytes rows heres → Next set registers p x from bytes
next law set registers all done rest plans xdone xrest p x from bytes rows heres h =
    let i = h.planned.0 in record {
      ready = record { front = i.short_front; start = i.start ∙ ap (λ (k : ℕ). k + total_size x.front) (sym i.begins); stubs = i.stubs; rows = i.rows; keys = i.keys; short = i.short; small = i.small };
      place = omega (arith, h.from_zero, h.place, i.begins);
      room = omega (arith, i.begins, h.room, h.limit);
      few = omega (arith, i.begins, i.exits, h.exits);
      number = law set h.can.0.label_of p h.can.0.sound;
    }

pub lays_more : Laws → (set : TraceSet) (registers : ℕ) (all done done' rest : List Piece) (plans xdone xdone' xrest : List Plan) (p : Piece) (x : Plan) (y : PieceHere) (from from' : ℕ) (bytes bytes' : List ℕ) (rows rows' : List ExitRow) (heres heres' : List PieceHere)
    → LaysAll set registers all done (p ∷ rest) plans xdone (x ∷ xrest) from bytes rows heres
    → done' ≡ done ++ p ∷ [] → xdone' ≡ xdone ++ x ∷ [] → heres' ≡ heres ++ y ∷ [] → from' ≡ from → IsHereOf p x y
    → bytes' ≡ bytes ++ laid_bytes x.at (listed (targets_from (planned_start plans) x.stubs p.ops)) x (exits_in p.ops)
    → rows' ≡ rows ++ rows_from (where_in x.places.at) x.id (λ k. place_among k 0 (noted x.start 0 x.selected.instrs x.selected.jumps)) x.exit 0 p.ops
    → LaysAll set registers all done' rest plans xdone' xrest from' bytes' rows' heres'
lays_more law set registers all done done' rest plans xdone xdone' xrest p x y from from' bytes bytes' rows rows' heres heres' h d xd hs f w b r =
    let i = h.planned.0 in
    let s = planned_start plans in
    let more = built_more law set registers s done xdone heres bytes bytes' rows rows' h.at h.exit p x y h.built i w b r in
    let t = stands law set registers s (label_places (length p.label)) (label_places (jump_count p.ops)) (loop_front p.id.half) p x h.at h.exit i in
    let front : total_size x.front ≤ 4 = subst (λ (k : List Instr). total_size k ≤ 4) (sym i.front) (front_short p.id.half) in
    let same : exits_in t.pl.piece.ops ≡ exits_in p.ops = ap (λ (q : Piece). exits_in q.ops) t.made.piece in
    let few : t.pl.exit + exits_in t.pl.piece.ops < 2 ^ 31 = omega (arith, t.first, same, h.exits, h.room, h.limit, i.short) in
    let long : length bytes' ≡ x.stubs + 16 * exits_in p.ops =
    ap length b ∙ length-append bytes (laid_bytes x.at (listed (targets_from s x.stubs p.ops)) x (exits_in p.ops))
    ∙ omega (arith, ap length t.bytes, piece_long law t.pl few, t.here, t.end, h.place) in record {
      at = x.stubs + 16 * exits_in p.ops;
      exit = h.exit + exits_in p.ops;
      end = h.end;
      last = h.last;
      from_zero = f ∙ h.from_zero;
      place = long;
      planned = h.planned.1;
      built =
          subst (λ (l : List Piece). Built set registers s l xdone' heres' bytes' rows' (x.stubs + 16 * exits_in p.ops) (h.exit + exits_in p.ops)) (sym d)
          (subst (λ (l : List Plan). Built set registers s (done ++ p ∷ []) l heres' bytes' rows' (x.stubs + 16 * exits_in p.ops) (h.exit + exits_in p.ops)) (sym xd)
          (subst (λ (l : List PieceHere). Built set registers s (done ++ p ∷ []) (xdone ++ x ∷ []) l bytes' rows' (x.stubs + 16 * exits_in p.ops) (h.exit + exits_in p.ops)) (sym hs) more));
      room = omega (arith, h.room, i.stubs, i.start, front, i.short);
      exits = omega (arith, h.exits, i.stubs, i.start);
      can = h.can.1;
      starts = h.starts;
      limit = h.limit;
    }

-- ---- all pieces

same_starts : (set : TraceSet) (registers : ℕ) (s : PieceId → ℕ) (ps : List Piece) (xs : List Plan) (ys : List PieceHere) (pls : List Placed) (q : PieceId) → MadeAll set registers s ps xs ys pls → planned_start xs q ≡ start_in pls q
same_starts set registers s [] [] [] [] q h = refl
same_starts set registers s (p ∷ ps) (x ∷ xs) (y ∷ ys) (pl ∷ pls) q h =
    ap (λ (i : PieceId). cond (same_piece q i) x.start (planned_start xs q)) h.0.id
    ∙ ap (λ (n : ℕ). cond (same_piece q pl.piece.id) n (planned_start xs q)) h.0.start
    ∙ ap (λ (n : ℕ). cond (same_piece q pl.piece.id) (start_of pl) n) (same_starts set registers s ps xs ys pls q h.2)
same_starts set registers s _ _ _ _ q h = absurd h

pub target_same : (f g : PieceId → ℕ) (stub : ℕ) (op : OptOp) → ((q : PieceId) → f q ≡ g q) → target_of f stub op ≡ target_of g stub op
target_same f g stub (opt.Plain operation r args d) same = refl
target_same f g stub (opt.Guard operation args n snap) same = refl
target_same f g stub (opt.Exit n snap) same = refl
target_same f g stub (opt.Jump to args) same = same to
target_same f g stub (opt.Finish value) same = refl

get_at : (done rest : List OptOp) (op : OptOp) → slice_get (done ++ op ∷ rest) (length done) ≡ Some op
get_at [] rest op = refl
get_at (d ∷ done) rest op = get_at done rest op

lead_of : (s : PieceId → ℕ) (pl : Placed) (n : ℕ) (done rest : List OptOp) (op : OptOp) → pl.to (length done) ≡ target_of s (stub_of pl (length done)) op → pl.setting.to ≡ label_places n
    → ((k : ℕ) (target : PieceId) (args : List Arg) → slice_get pl.piece.ops k ≡ Some (opt.Jump target args) → length args ≡ length (label_places n))
    → pl.piece.ops ≡ done ++ op ∷ rest → Leads s pl (length done) op
lead_of s pl n done rest (opt.Plain operation r args d) t to count split = tt
lead_of s pl n done rest (opt.Guard operation args g snap) t to count split = t
lead_of s pl n done rest (opt.Exit g snap) t to count split = t
lead_of s pl n done rest (opt.Jump target args) t to count split =
    let e : length args ≡ n = count (length done) target args (ap (λ (l : List OptOp). slice_get l (length done)) split ∙ get_at done rest (opt.Jump target args)) ∙ words_long 16 n in
    (t, to ∙ ap label_places (sym e))
lead_of s pl n done rest (opt.Finish value) t to count split = t

pub record All (set : TraceSet) (registers : ℕ) (g : PieceId → ℕ) (ps : List Piece) (ys : List PieceHere) (pls : List Placed) : Type 0 where
  pub pieces : map (λ (pl : Placed). pl.piece) pls ≡ ps
  pub fronts : AllByRecursion (λ (pl : Placed). pl.front ≡ loop_front pl.piece.id.half) pls
  pub chosen : AllByRecursion (IsChosen set) pls
  pub leads : AllByRecursion (AllLead g) pls
  pub heres : AreHere pls ys
  pub standing : AllByRecursion (IsStanding set registers (words_for set [])) pls
  pub targets : AllByRecursion (AllTargets g) pls
  pub tos : AllByRecursion (λ (pl : Placed). pl.setting.to ≡ label_places (jump_count pl.piece.ops)) pls
  pub labels : AllByRecursion (λ (pl : Placed). label_at pl ≡ label_places (length pl.piece.label)) pls

words_few_enough : (set : TraceSet) (registers : ℕ) (p : Piece) → CanPlan set p registers → words_used (label_places (length p.label)) ≤ words_for set []
words_few_enough set registers p h =
    let label : length p.label < 2 * trace_weight set p.id.trace + 65 = label_few p (2 * trace_weight set p.id.trace + 65) (omega (arith, h.sound.few_boxes)) in
    omega (arith, words_few 16 (length p.label) (omega arith), label, h.weight)

chosen_of : (set : TraceSet) (registers : ℕ) (s : PieceId → ℕ) (p : Piece) (x : Plan) (pl : Placed) → MadeLoop set registers s p x pl → IsChosen set pl
chosen_of set registers s p x pl m =
    let i = m.standing (words_for set []) (words_few_enough set registers p m.can) in record {
      table = i.table;
      label = subst (λ (n : ℕ). AllZip (λ (q : Place) (b : BoxId). pl.setting.at b.number ≡ q) (label_places n) pl.piece.label) (ap (λ (q : Piece). length q.label) (sym m.piece)) m.label_zip;
      serves = i.serves;
      hold = i.hold;
      apart = i.apart;
      safe = i.safe;
      chosen = i.chosen;
    }

pub all_of : (set : TraceSet) (registers : ℕ) (s g : PieceId → ℕ) (ps : List Piece) (xs : List Plan) (ys : List PieceHere) (pls : List Placed) → ((q : PieceId) → s q ≡ g q) → MadeAll set registers s ps xs ys pls → All set registers g ps ys pls
all_of set registers s g [] [] [] [] same h = record { pieces = refl; fronts = tt; chosen = tt; leads = tt; heres = tt; standing = tt; targets = tt; tos = tt; labels = tt }
all_of set registers s g (p ∷ ps) (x ∷ xs) (y ∷ ys) (pl ∷ pls) same h =
    let m = h.0 in
    let r = all_of set registers s g ps xs ys pls same h.2 in
    let n = jump_count p.ops in
    let led : (done rest : List OptOp) (op : OptOp) → pl.piece.ops ≡ done ++ op ∷ rest → pl.to (length done) ≡ target_of g (stub_of pl (length done)) op =
    λ done rest op split. m.targets done rest op split ∙ target_same s g (stub_of pl (length done)) op same in record {
      pieces = ap (λ (q : Piece). q ∷ map (λ (pl : Placed). pl.piece) pls) m.piece ∙ ap (λ (l : List Piece). p ∷ l) r.pieces;
      fronts = (m.front_is ∙ ap (λ (q : Piece). loop_front q.id.half) (sym m.piece), r.fronts);
      chosen = (chosen_of set registers s p x pl m, r.chosen);
      leads = ((λ done rest op split. lead_of g pl n done rest op (led done rest op split) m.to_is m.counts split), r.leads);
      heres = (h.1, r.heres);
      standing = (m.standing (words_for set []) (words_few_enough set registers p m.can), r.standing);
      targets = (led, r.targets);
      tos = (m.to_is ∙ ap (λ (q : Piece). label_places (jump_count q.ops)) (sym m.piece), r.tos);
      labels = (m.label_is ∙ ap (λ (q : Piece). label_places (length q.label)) (sym m.piece), r.labels);
    }
all_of set registers s g _ _ _ _ same h = absurd h

pub laid_of : (set : TraceSet) (registers : ℕ) (all : List Piece) (plans : List Plan) (from : ℕ) (laid : Laid) → LaysAll set registers all all [] plans plans [] from laid.bytes.items laid.exits.items laid.pieces.items → IsLaid set registers all laid
laid_of set registers all plans from laid h =
    let b = h.built in
    let s = planned_start plans in
    let a = all_of set registers s (start_in b.placed) all plans laid.pieces.items b.placed (λ q. same_starts set registers s all plans laid.pieces.items b.placed q b.made) b.made in record {
      placed = b.placed;
      pieces = a.pieces;
      fronts = a.fronts;
      code = b.bytes_so;
      end = h.at;
      last = h.exit;
      follow = b.laid;
      chosen = a.chosen;
      leads = a.leads;
      rows = b.rows_so;
      heres = a.heres;
      place = h.place;
      standing = a.standing;
      targets = a.targets;
      tos = a.tos;
      labels = a.labels;
      short = omega (arith, h.place, h.room);
    }

-- ---- the loop over references to pieces

abbrev pub now_of : Bor Piece → Piece
now_of b = b.now

pub at_next : (set : TraceSet) (registers : ℕ) (all done : List Piece) (bs : List (Bor Piece)) (k : ℕ) (b : Bor Piece) (plans xdone : List Plan) (from : ℕ) (bytes : List ℕ) (rows : List ExitRow) (heres : List PieceHere)
    → k < length bs → b ≡ get_or bs k b → LaysAll set registers all done (map now_of (drop k bs)) plans xdone (drop k plans) from bytes rows heres
    → (k < length plans) × ((x : Plan) → x ≡ get_or plans k x → LaysAll set registers all done (b.now ∷ map now_of (drop (k + 1) bs)) plans xdone (x ∷ drop (k + 1) plans) from bytes rows heres)
at_next set registers all done bs k b plans xdone from bytes rows heres lt is h =
    let first = drop_map now_of bs k b lt is in
    let h1 = subst (λ (l : List Piece). LaysAll set registers all done l plans xdone (drop k plans) from bytes rows heres) first h in
    let inside = has_plan set registers h1.at h1.exit h1.end h1.last k b.now (map now_of (drop (k + 1) bs)) plans h1.planned in
    (inside, λ x e. subst (λ (l : List Plan). LaysAll set registers all done (b.now ∷ map now_of (drop (k + 1) bs)) plans xdone l from bytes rows heres) (front_of plans k x inside e) h1)

nil_of : {X : Type 0} (xs : List X) → length xs ≡ 0 → xs ≡ []
nil_of [] e = refl
nil_of (x ∷ xs) e = absurd (no (length xs) e)
  where
    no : (n : ℕ) → suc n ≡ 0 → ⊥
    no n h = omega (arith, h)

no_plans : (set : TraceSet) (registers at exit end last : ℕ) (xs : List Plan) → ArePlanned set registers at exit [] xs end last → xs ≡ []
no_plans set registers at exit end last [] h = refl
no_plans set registers at exit end last (x ∷ xs) h = absurd h

taken_all : {X : Type 0} (k : ℕ) (xs : List X) → drop k xs ≡ [] → take k xs ≡ xs
taken_all k xs e = sym (append-nil (take k xs)) ∙ ap (λ l. take k xs ++ l) (sym e) ∙ take-append-drop k xs

pub finish : (set : TraceSet) (registers : ℕ) (bs : List (Bor Piece)) (k : ℕ) (plans : List Plan) (from : ℕ) (bytes : List ℕ) (rows : List ExitRow) (heres : List PieceHere)
    → length bs ≤ k → LaysAll set registers (map now_of bs) (map now_of (take k bs)) (map now_of (drop k bs)) plans (take k plans) (drop k plans) from bytes rows heres
    → LaysAll set registers (map now_of bs) (map now_of bs) [] plans plans [] from bytes rows heres
finish set registers bs k plans from bytes rows heres le h =
    let all = map now_of bs in
    let none : drop k bs ≡ [] = nil_of (drop k bs) (length-drop k bs ∙ omega (arith, le)) in
    let h1 = subst (λ (l : List (Bor Piece)). LaysAll set registers all (map now_of (take k bs)) (map now_of l) plans (take k plans) (drop k plans) from bytes rows heres) none h in
    let h2 = subst (λ (l : List (Bor Piece)). LaysAll set registers all (map now_of l) [] plans (take k plans) (drop k plans) from bytes rows heres) (taken_all k bs none) h1 in
    let gone : drop k plans ≡ [] = no_plans set registers h2.at h2.exit h2.end h2.last (drop k plans) h2.planned in
    let h3 = subst (λ (l : List Plan). LaysAll set registers all all [] plans (take k plans) l from bytes rows heres) gone h2 in
    subst (λ (l : List Plan). LaysAll set registers all all [] plans l [] from bytes rows heres) (taken_all k plans gone) h3
