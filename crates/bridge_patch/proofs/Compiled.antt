-- The image of loops' pieces, as one to which bridges may be attached.
use Rattle.std.proofs.Common.{◌≡◌, ℕ, zero, suc, ◌+◌, ◌*◌, ◌<◌, ◌^◌, Bool, true, false, cond, List, [], ◌∷◌, ◌++◌, length, Option, Some, None, refl, sym, ap, ◌∙◌, subst, arith, length-append, append_assoc, inl}
use Rattle.std.proofs.lemmas.List.{length-map}
use Rattle.std.specs.Prelude.{slice_get, map, ◌-◌}
use Rattle.std.specs.List.{AllByRecursion, All, Contains}
use Rattle.std.specs.Option.{IsSomeAnd, option_map}
use Rattle.std.proofs.lemmas.List.Elements.{All-head, All-tail}
use Rattle.trace_ops.specs.declared.trace.Arg.{Arg}
use Rattle.trace_ops.specs.declared.trace.BoxId.{BoxId}
use Rattle.trace_ops.specs.declared.trace.Origin.{Origin}
use Rattle.trace_ops.specs.declared.trace.Origin.TheVariants.{Loop, Bridge}
use Rattle.trace_ops.specs.declared.trace.Trace.{Trace}
use Rattle.trace_ops.specs.declared.trace.TraceSet.{TraceSet}
use Rattle.trace_ops.specs.declared.piece.PieceId.{PieceId}
use Rattle.trace_ops.specs.declared.piece.OptOp.{OptOp}
use Rattle.trace_ops.specs.declared.piece.OptOp.TheVariants as opt
use Rattle.trace_ops.specs.declared.piece.Piece.{Piece}
use Rattle.trace_ops.specs.declared.piece.OptTrace.{OptTrace}
use Rattle.trace_ops.specs.Kinds.{kind_of_arg}
use Rattle.trace_ops.specs.Pieces.{FitsLabel}
use Rattle.trace_ops.specs.Sound.{IsSound}
use Rattle.trace_ops.specs.Weights.{trace_weight, sum_below}
use Rattle.opt_meaning.specs.Pieces.{same_piece, piece_at, all_pieces}
use Rattle.bridge_patch.specs.Pieces.{Placed, stub_of, start_in, label_places, label_at, AreLaid, spelled}
use Rattle.guard_exit.specs.Codes.{common_code}
use Rattle.bridge_patch.specs.Image.{Imaged, AreHere, ArePiecesOf, loop_if, loops_from, AreOfLoops, label_in, CanCompile}
use Rattle.bridge_patch.specs.Planning.{AllTargets, count_of, jump_count, target_of, room_for}
use Rattle.bridge_patch.specs.Laid.{IsLaid}
use Rattle.bridge_patch.specs.declared.laying.Laid.{Laid}
use Rattle.bridge_patch.specs.Bridged.{IsBridge, leaves, is_bridging}
use Rattle.bridge_patch.specs.Attached.{IsImageOf, IsStanding, words_for, LeadsNow, AllLeadNow, JumpsAmong, places_in, IsKnown, bytes_unless, room_left}
use Rattle.bridge_patch.proofs.Compiling.{room_used}

-- ---- jumps

-- the label of the piece of this name has a fitting length, and frame words for places
label_if : (x : Placed) (xs : List Placed) (q : PieceId) (n : ℕ) (b : Bool) → label_at x ≡ label_places (length x.piece.label)
    → IsSomeAnd (option_map (λ (p : Piece). p.label) (cond b (Some x.piece) (piece_at (map (λ (pl : Placed). pl.piece) xs) q))) (λ (label : List BoxId). n ≡ length label)
    → (IsSomeAnd (label_in (map (λ (pl : Placed). pl.piece) xs) q) (λ (label : List BoxId). n ≡ length label) → places_in xs q ≡ label_places n) → cond b (label_at x) (places_in xs q) ≡ label_places n
label_if x xs q n true h j later = h ∙ ap label_places (sym j)
label_if x xs q n false h j later = later j

label_found : (pls : List Placed) (q : PieceId) (n : ℕ) → AllByRecursion (λ (pl : Placed). label_at pl ≡ label_places (length pl.piece.label)) pls
    → IsSomeAnd (label_in (map (λ (pl : Placed). pl.piece) pls) q) (λ (label : List BoxId). n ≡ length label) → places_in pls q ≡ label_places n
label_found [] q n h i = absurd i
label_found (pl ∷ pls) q n h i = label_if pl pls q n (same_piece q pl.piece.id) h.0 i (label_found pls q n h.1)

pub some_more : {X : Type 0} (o : Option X) (P Q : X → Type 0) → ((x : X) → P x → Q x) → IsSomeAnd o P → IsSomeAnd o Q
some_more None P Q f h = h
some_more (Some x) P Q f h = f x h

pub same_count : (args : List Arg) (label : List BoxId) → map kind_of_arg args ≡ map (λ (b : BoxId). Some b.kind) label → length args ≡ length label
same_count args label e = sym (length-map args kind_of_arg) ∙ ap length e ∙ length-map label (λ (b : BoxId). Some b.kind)

pub in_middle : (P : OptOp → Type 0) (done rest : List OptOp) (op : OptOp) → All P (done ++ op ∷ rest) → P op
in_middle P [] rest op h = All-head P op rest h
in_middle P (d ∷ done) rest op h = in_middle P done rest op (All-tail P d (done ++ op ∷ rest) h)

pub get_at : (done rest : List OptOp) (op : OptOp) → slice_get (done ++ op ∷ rest) (length done) ≡ Some op
get_at [] rest op = refl
get_at (d ∷ done) rest op = get_at done rest op

ends_count : (ops done rest : List OptOp) (to : PieceId) (args : List Arg) → ops ≡ done ++ opt.Jump to args ∷ rest → length done + 1 ≡ length ops → jump_count ops ≡ length args
ends_count ops done rest to args split last =
    let m : length ops - 1 ≡ length done = omega (arith, last) in
    ap (λ (i : ℕ). count_of (slice_get ops i)) m ∙ ap (λ (l : List OptOp). count_of (slice_get l (length done))) split ∙ ap count_of (get_at done rest (opt.Jump to args))

lead_now : (set : TraceSet) (placed : List Placed) (pl : Placed) (done rest : List OptOp) (op : OptOp)
    → IsSound set (label_in (map (λ (x : Placed). x.piece) placed)) pl.piece → AllByRecursion (λ (x : Placed). label_at x ≡ label_places (length x.piece.label)) placed
    → pl.to (length done) ≡ target_of (start_in placed) (stub_of pl (length done)) op → pl.setting.to ≡ label_places (jump_count pl.piece.ops) → pl.piece.ops ≡ done ++ op ∷ rest
    → LeadsNow set.traces [] placed pl (length done) op
lead_now set placed pl done rest (opt.Plain operation r args d) sound labels t to split = tt
lead_now set placed pl done rest (opt.Guard operation args g snap) sound labels t to split = t
lead_now set placed pl done rest (opt.Exit g snap) sound labels t to split = t
lead_now set placed pl done rest (opt.Jump target args) sound labels t to split =
    let ps = map (λ (x : Placed). x.piece) placed in
    let fits = in_middle (FitsLabel (label_in ps)) done rest (opt.Jump target args) (subst (All (FitsLabel (label_in ps))) split sound.jumps_fit) in
    let found = some_more (label_in ps target) (λ (label : List BoxId). map kind_of_arg args ≡ map (λ (b : BoxId). Some b.kind) label) (λ (label : List BoxId). length args ≡ length label) (same_count args) fits in
    let here = ap (λ (l : List OptOp). slice_get l (length done)) split ∙ get_at done rest (opt.Jump target args) in
    let n = ends_count pl.piece.ops done rest target args split ((sound.formed.ends_once (length done) (opt.Jump target args) here).0 refl) in
    (t, to ∙ ap label_places n ∙ sym (label_found placed target (length args) labels found))
lead_now set placed pl done rest (opt.Finish value) sound labels t to split = t

leads_now : (set : TraceSet) (placed pls : List Placed) → AllByRecursion (IsSound set (label_in (map (λ (x : Placed). x.piece) placed))) (map (λ (x : Placed). x.piece) pls)
    → AllByRecursion (λ (x : Placed). label_at x ≡ label_places (length x.piece.label)) placed → AllByRecursion (AllTargets (start_in placed)) pls
    → AllByRecursion (λ (x : Placed). x.setting.to ≡ label_places (jump_count x.piece.ops)) pls → AllByRecursion (AllLeadNow set.traces [] placed) pls
leads_now set placed [] sound labels targets tos = tt
leads_now set placed (pl ∷ pls) sound labels targets tos =
    ((λ done rest op split. lead_now set placed pl done rest op sound.0 labels (targets.0 done rest op split) tos.0 split), leads_now set placed pls sound.1 labels targets.1 tos.1)

-- ---- loops

-- the piece is one of a loop
abbrev OfLoop : TraceSet → Piece → Type 0
OfLoop set p = ¬ IsBridge set p.id.trace

loop_if_known : (set : TraceSet) (k : ℕ) (t : Trace) (os : List OptTrace) (rest : List ℕ) → slice_get set.traces k ≡ Some t → (o : Origin) → t.origin ≡ o
    → AreOfLoops (loop_if o k ++ rest) os → ((more : List OptTrace) → AreOfLoops rest more → AllByRecursion (OfLoop set) (all_pieces more)) → AllByRecursion (OfLoop set) (all_pieces os)
loop_if_known set k t [] rest here Loop e h r = tt
loop_if_known set k t (o ∷ os) rest here Loop e h r = pieces o.pieces h.0
  where
    loop : ¬ IsBridge set k
    loop i = false_true (sym (ap is_bridging here ∙ ap leaves e) ∙ i)
      where
        false_true : false ≡ true → ⊥
        false_true x = cc

    pieces : (ps : List Piece) → ArePiecesOf k ps → AllByRecursion (OfLoop set) (ps ++ all_pieces os)
    pieces [] a = absurd a
    pieces (p ∷ []) a = (subst (λ (q : ℕ). ¬ IsBridge set q) (sym (ap (λ (i : PieceId). i.trace) a)) loop, r os h.1)
    pieces (p ∷ q ∷ []) a = (subst (λ (q : ℕ). ¬ IsBridge set q) (sym (ap (λ (i : PieceId). i.trace) a.0)) loop, (subst (λ (q : ℕ). ¬ IsBridge set q) (sym (ap (λ (i : PieceId). i.trace) a.1)) loop, r os h.1))
    pieces (p ∷ q ∷ x ∷ more) a = absurd a
loop_if_known set k t os rest here (Bridge parent guard) e h r = r os h

all_loops : (set : TraceSet) (before ts : List Trace) (os : List OptTrace) → set.traces ≡ before ++ ts → AreOfLoops (loops_from (length before) ts) os → AllByRecursion (OfLoop set) (all_pieces os)
all_loops set before [] [] e h = tt
all_loops set before [] (o ∷ os) e h = absurd h
all_loops set before (t ∷ ts) os e h =
    let next : length (before ++ t ∷ []) ≡ length before + 1 = length-append before (t ∷ []) in
    let split : set.traces ≡ (before ++ t ∷ []) ++ ts = e ∙ sym (append_assoc before (t ∷ []) ts) in
    loop_if_known set (length before) t os (loops_from (length before + 1) ts) (ap (λ (l : List Trace). slice_get l (length before)) e ∙ trace_at before ts t) t.origin refl h
    (λ more a. all_loops set (before ++ t ∷ []) ts more split (subst (λ (n : ℕ). AreOfLoops (loops_from n ts) more) (sym next) a))
  where
    trace_at : (done rest : List Trace) (x : Trace) → slice_get (done ++ x ∷ rest) (length done) ≡ Some x
    trace_at [] rest x = refl
    trace_at (d ∷ done) rest x = trace_at done rest x

all_known : (set : TraceSet) (pls : List Placed) → AllByRecursion (OfLoop set) (map (λ (x : Placed). x.piece) pls) → AllByRecursion (λ (pl : Placed). IsKnown set [] pl.piece.id.trace) pls
all_known set [] h = tt
all_known set (pl ∷ pls) h = (inl h.0, all_known set pls h.1)

-- ---- room

bytes_below : (w : ℕ → ℕ) (n : ℕ) → sum_below (λ (k : ℕ). bytes_unless false (w k)) n ≡ 128 * n + 256 * sum_below w n
unfolding sum_below
bytes_below w zero = refl
bytes_below w (suc n) = omega (arith, bytes_below w n)

pub placed_image : (set : TraceSet) (registers : ℕ) (loops : List OptTrace) (laid : Laid) (image : Imaged) → (h : IsLaid set registers (all_pieces loops) laid) → CanCompile set loops registers
    → image.registers ≡ registers → image.bytes ≡ laid.bytes.items → image.pieces ≡ laid.pieces.items → image.exits ≡ laid.exits.items → image.attached ≡ [] → IsImageOf set h.placed image
placed_image set registers loops laid image h can r b p e a =
    let sound = subst (λ (ps : List Piece). AllByRecursion (IsSound set (label_in ps)) ps) (sym h.pieces) can.sound in
    let leads = leads_now set h.placed h.placed sound h.labels h.targets h.tos in
    let loop = all_loops set [] set.traces loops refl can.each in
    let known = all_known set h.placed (subst (AllByRecursion (OfLoop set)) (sym h.pieces) loop) in
    let long : length image.bytes ≡ h.end = ap length b ∙ h.place in
    let room = room_first set loops registers can in record {
      code = b ∙ h.code;
      last = h.last;
      laid = subst (λ (n : ℕ). AreLaid (length (spelled common_code)) 0 h.placed n h.last) (sym long) h.follow;
      standing = subst (λ (n : ℕ). AllByRecursion (IsStanding set n (words_for set image.attached)) h.placed) (sym r) (subst (λ (bs : List ℕ). AllByRecursion (IsStanding set registers (words_for set bs)) h.placed) (sym a) h.standing);
      leads = subst (λ (bs : List ℕ). AllByRecursion (AllLeadNow set.traces bs h.placed) h.placed) (sym a) leads;
      closed = jumps_sound (label_in (map (λ (pl : Placed). pl.piece) h.placed)) h.placed sound;
      exits = e ∙ h.rows;
      heres = subst (AreHere h.placed) (sym p) h.heres;
      known = subst (λ (bs : List ℕ). AllByRecursion (λ (pl : Placed). IsKnown set bs pl.piece.id.trace) h.placed) (sym a) known;
      parents = λ b c. absurd (none b (subst (λ (bs : List ℕ). Contains bs b) a c));
      room = subst (λ (bs : List ℕ). length image.bytes + room_left set bs < 2 ^ 30) (sym a) (omega (arith, room, ap length b, h.short));
    }
  where
    none : (b : ℕ) → Contains {X = ℕ} [] b → ⊥
    none b (i, lt, e) = omega (arith, lt)

    jumps_sound : (label_of : PieceId → Option (List BoxId)) (pls : List Placed) → AllByRecursion (IsSound set label_of) (map (λ (pl : Placed). pl.piece) pls) → AllByRecursion (JumpsAmong label_of) pls
    jumps_sound label_of [] s = tt
    jumps_sound label_of (pl ∷ pls) s = (s.0.jumps_fit, jumps_sound label_of pls s.1)

    room_first : (set : TraceSet) (loops : List OptTrace) (registers : ℕ) → CanCompile set loops registers → 49 + room_for (all_pieces loops) + room_left set [] < 2 ^ 30
    room_first set loops registers can =
        let w = trace_weight set in
        omega (arith, room_used set loops registers can, bytes_below w (length set.traces), can.light, can.range.few_traces)
