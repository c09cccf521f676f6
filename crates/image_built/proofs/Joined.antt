-- So what an attachment makes is related to what was there as an attachment should be.
use Rattle.std.proofs.Common.{◌≡◌, ◌≢◌, ◌⊎◌, inl, inr, ℕ, ◌+◌, ◌<◌, ◌≤◌, ◌^◌, Bool, true, false, cond, List, [], ◌∷◌, ◌++◌, length, map, append_assoc, Option, Some, None, refl, sym, ap, ◌∙◌, subst, arith, pos}
use Rattle.std.specs.Prelude.{slice_get, option_and_then}
use Rattle.std.specs.List.{AllByRecursion, Contains}
use Rattle.lists.specs.Has.{Has}
use Rattle.trace_ops.specs.declared.trace.TraceSet.{TraceSet}
use Rattle.trace_ops.specs.declared.piece.Half.{Half}
use Rattle.trace_ops.specs.declared.piece.Half.TheVariants.{Pre}
use Rattle.trace_ops.specs.declared.piece.PieceId.{PieceId}
use Rattle.trace_ops.specs.declared.piece.OptOp.{OptOp}
use Rattle.trace_ops.specs.declared.piece.Piece.{Piece}
use Rattle.trace_meaning.specs.Cuts.{is_bridge_of}
use Rattle.opt_meaning.specs.Pieces.{piece_at, ops_of, ops_at, id_if, bridge_piece, same_piece}
use Rattle.guard_exit.specs.declared.row.ExitRow.{ExitRow}
use Rattle.guard_exit.specs.Codes.{common_code}
use Rattle.asm_select.specs.Slots.{Slot, sizes_of, size_of}
use Rattle.asm_select.specs.Asked.{AreChosen}
use Rattle.asm_select.specs.declared.told.Told.TheVariants as tell
use Rattle.asm_select.specs.Chosen.{Setting}
use Rattle.code_layout.specs.Leading.{way}
use Rattle.bridge_patch.specs.Pieces.{Placed, exit_of, stub_of, spelled, AreLaid, all_rows}
use Rattle.bridge_patch.specs.Image.{Imaged}
use Rattle.bridge_patch.specs.Bridged.{bridge_on, is_from}
use Rattle.bridge_patch.specs.Attached.{led_on, is_copy_at, guard_of, begin_in}
use Rattle.image_runs.specs.Reached.{IsJumpOf}
use Rattle.image_runs.specs.Bridges.{attached_bridge}
use Rattle.image_runs.specs.Session.{Host}
use Rattle.image_runs.specs.Selection.{Guarded, Finishing, Inside, Model}
use Rattle.image_runs.specs.Selection as runs
use Rattle.image_runs.specs.Image.{Image, Leads, GuardLeads, IsImage, JumpAt, RowOf, disp_in}
use Rattle.image_runs.specs.Attached.{widened, AreKept, Grown}
use Rattle.image_runs.specs.Attachment.{IsKey, SameKey, RowsMore, Attaches}
use Rattle.image_model.specs.Modelled.{model_of}
use Rattle.image_model.specs.Laws.{HostServes}
use Rattle.image_built.specs.Built.{slots_from, all_slots, run_of, runs_from, by_key, by_of, to_all, exit_if, image_of}
use Rattle.image_built.proofs.Leading.{KeysAre, keys_weaker, key_at, sizes-append}
use Rattle.image_built.proofs.Splitting.{keys_in, keys_in-append, last_most, stands}
use Rattle.image_built.proofs.Locating.{Located, once_from}
use Rattle.image_built.proofs.Naming.{piece_of, each_weaker, not_true}
use Rattle.image_built.proofs.Rowing.{has_of, contains_of, has_right, has_cases}
use Rattle.image_built.proofs.Placing.{Setup, Made, are_in, spot, within_ops, few_last}
use Rattle.image_built.proofs.Sourcing.{is_on, on_append, one_bridge}
use Rattle.image_built.proofs.Reaching.{run_there}
use Rattle.image_built.proofs.Telling.{says_number, located_at}
use Rattle.image_built.proofs.Growing.{each_second, piece_more, InBoth, First, Second, in_both}
use Rattle.image_built.proofs.Imaging.{Relies, attached_same, run_is, image_is}
use Rattle.image_built.proofs.Attaching.{Joins, after, pieces_after, keys_led}
use Rattle.image_built.proofs.Joining.{slots_after, runs_led, rows_after, laid_split, laid_led, rows_between, KeyAt, key_low, key_same, key_is, by_same, none_more, none_named, exit_guard}

module _ (host : Host) (r : Relies host) (set : TraceSet) (whole : List Piece) (settings : PieceId → Setting) (bridge : ℕ) (pieces : List Piece) (placed : List Placed) (old new : Imaged) (z : Joins set bridge pieces placed old new)
    (m : Made set (record { pieces = whole; settings = settings; bridges = old.attached }) (map piece_of placed) placed)
    (next : Made set (record { pieces = whole; settings = settings; bridges = new.attached }) (map piece_of (after set bridge z.grown.news placed)) (after set bridge z.grown.news placed)) (serves : HostServes host set.table) where
  abbrev news : List Placed
  news = z.grown.news

  abbrev f : Placed → Placed
  f = led_on set.traces bridge news

  abbrev ps : List Piece
  ps = map piece_of placed

  abbrev all : List Placed
  all = after set bridge news placed

  abbrev qs : List Piece
  qs = map piece_of all

  abbrev bs : List ℕ
  bs = old.attached

  abbrev now : Setup
  now = record { pieces = whole; settings = settings; bridges = bs }

  abbrev model : Model
  model = model_of host set whole settings ps

  abbrev g : Image
  g = image_of placed

  abbrev h : Image
  h = image_of all

  abbrev more : List Slot
  more = slots_from (keys_in placed) news

  same_pieces : qs ≡ ps ++ map piece_of news
  same_pieces = pieces_after set bridge news placed

  new_traces : AllByRecursion (λ (p : Piece). p.id.trace ≡ bridge) (map piece_of news)
  new_traces = subst (AllByRecursion (λ (p : Piece). p.id.trace ≡ bridge)) (sym z.grown.are) z.fit.named

  -- the image behind the attachment
  pub image : IsImage (model_of host set whole settings qs) h (bs ++ bridge ∷ []) (all_rows all)
  image = subst (λ (l : List ℕ). IsImage (model_of host set whole settings qs) h l (all_rows all)) z.attached (image_is host r set (record { pieces = whole; settings = settings; bridges = new.attached }) qs all (all_rows all) serves next refl)

  -- ---- pieces

  run_named : (run : runs.Placed) → Contains g.placed run → (pl : Placed) × (before : List Placed) × (behind : List Placed) × (placed ≡ before ++ pl ∷ behind) × (run.id ≡ pl.piece.id) × (run.key ≡ keys_in before)
  run_named run c =
      let y = run_is placed run c in
      (y.pl, y.before, y.after, y.here, ap (λ (x : runs.Placed). x.id) y.is, ap (λ (x : runs.Placed). x.key) y.is ∙ zero_more (keys_in y.before))
    where
      zero_more : (n : ℕ) → 0 + n ≡ n
      zero_more n = omega arith

  at_named : (pl : Placed) (before behind : List Placed) → placed ≡ before ++ pl ∷ behind → piece_at ps pl.piece.id ≡ Some pl.piece
  at_named pl before behind e = (spot set now ps before behind pl (subst (Made set now ps) e m)).at

  kept_at : (q : PieceId) (p : Piece) → piece_at ps q ≡ Some p → piece_at qs q ≡ piece_at ps q
  kept_at q p e = ap (λ (l : List Piece). piece_at l q) same_pieces ∙ piece_more ps (map piece_of news) q p e ∙ sym e

  kept_run : (run : runs.Placed) → Contains g.placed run → piece_at qs run.id ≡ piece_at ps run.id
  kept_run run c =
      let y = run_named run c in
      let e : piece_at ps run.id ≡ Some y.0.piece = ap (piece_at ps) y.4 ∙ at_named y.0 y.1 y.2 y.3 in
      kept_at run.id y.0.piece e

  not_new : (half : Half) (b : ℕ) → b ≢ bridge → piece_at (map piece_of news) (record { trace = b; half = half }) ≡ None
  not_new half b ne =
      none_named (map piece_of news) (record { trace = b; half = half })
      (each_weaker (λ (p : Piece). p.id.trace ≡ bridge) (λ (x : Piece). same_piece (record { trace = b; half = half }) x.id ≡ false) (map piece_of news)
      (λ x e. not_true (same_piece (record { trace = b; half = half }) x.id) (λ t. ne (ap (λ (q : PieceId). q.trace) ((m.names (record { trace = b; half = half }) x.id).0 t) ∙ e))) new_traces)

  kept_bridge : (half : Half) (b : ℕ) (o : Option Piece) → b ≢ bridge → piece_at ps (record { trace = b; half = half }) ≡ o → bridge_piece qs half b ≡ bridge_piece ps half b
  kept_bridge half b (Some p) ne e = ap (id_if (record { trace = b; half = half })) (kept_at (record { trace = b; half = half }) p e)
  kept_bridge half b None ne e =
      let none : piece_at qs (record { trace = b; half = half }) ≡ None = ap (λ (l : List Piece). piece_at l (record { trace = b; half = half })) same_pieces ∙ none_more ps (map piece_of news) (record { trace = b; half = half }) e (not_new half b ne) in
      ap (id_if (record { trace = b; half = half })) (none ∙ sym e)

  pub kept : AreKept model qs g bs
  kept = record {
    placed = kept_run;
    bridges = λ half b has. kept_bridge half b (piece_at ps (record { trace = b; half = half })) (λ e. z.fresh (subst (Contains bs) e (contains_of bs b has))) refl;
  }

  -- ---- keys

  pub key_of : (e : ℕ) → IsKey model g e → KeyAt placed e
  key_of e k =
      let y = run_named k.pl k.there in
      let split : y.0.piece.ops ≡ k.done ++ k.op ∷ k.rest = sym (ap ops_of (at_named y.0 y.1 y.2 y.3)) ∙ ap (ops_at ps) (sym y.4) ∙ k.ops in
      record { before = y.1; pl = y.0; more = y.2; here = y.3; k = length k.done; within = within_ops y.0.piece.ops k.done k.rest k.op split; key = k.key ∙ ap (λ (n : ℕ). n + length k.done) y.5 }

  same_said : {X : Type 0} (none : X) (F : Placed → ℕ → X) (e : ℕ) → ((pl : Placed) (k : ℕ) → F (f pl) k ≡ F pl k) → KeyAt placed e → by_key none F all e ≡ by_key none F placed e
  same_said none F e same k = key_same none F set bridge news placed e k ∙ same k.pl k.k ∙ sym (key_is none F placed e k)

  pub owned : (e : ℕ) → JumpAt g e → IsKey model g e
  owned e x =
      let l = located_at placed e x in
      let at = at_named l.pl l.before l.after l.here in record {
        pl = run_of (keys_in l.before) l.pl;
        there = subst (λ (xs : List Placed). Contains (runs_from 0 xs) (run_of (keys_in l.before) l.pl)) (sym l.here) (run_there l.before l.after l.pl);
        done = l.done;
        op = l.op;
        rest = l.rest;
        ops = ap ops_of at ∙ l.split;
        key = l.key;
      }

  pub numbers : (e : ℕ) → JumpAt g e → h.number e ≡ g.number e
  numbers e x = same_said 0 exit_of e (λ pl k. refl) (key_of e (owned e x))

  pub keys : (e : ℕ) → IsKey model g e → SameKey g h e
  keys e k =
      let at = key_of e k in record {
        exit = same_said Inside (λ (pl : Placed) (j : ℕ). exit_if (slice_get pl.piece.ops j)) e (λ pl j. refl) at;
        owner = same_said (record { trace = 0; half = Pre }) (λ (pl : Placed) (j : ℕ). pl.piece.id) e (λ pl j. refl) at;
        number = same_said 0 exit_of e (λ pl j. refl) at;
        stub = same_said 0 stub_of e (λ pl j. refl) at;
        leap = same_said (pos 0) (λ (pl : Placed) (j : ℕ). way (stub_of pl j + 16) 0) e (λ pl j. refl) at;
      }

  abbrev pub grown : Grown g h
  grown = record {
    more = more;
    slots = slots_after set bridge news placed;
    placed = λ run c. contains_of (runs_from 0 all) run (runs_led set bridge news 0 placed run (has_of (runs_from 0 placed) run c));
    numbers = numbers;
  }

  -- the appended slots have other keys
  more_high : KeysAre (λ (e : ℕ). keys_in placed ≤ e) more
  more_high = (once_from m.jumps (keys_in placed) news (each_second (λ (pl : Placed). AreChosen pl.setting 0 tell.Nothing pl.piece.ops) (map f placed) news (are_in set (record { pieces = whole; settings = settings; bridges = new.attached }) qs all next).chosen)).1

  pub away : (e : ℕ) (front behind : List Slot) (x : Slot) → more ≡ front ++ x ∷ behind → IsJumpOf x e → IsKey model g e → ⊥
  away e front behind x split j k =
      let high = key_at (λ (i : ℕ). keys_in placed ≤ i) front behind x e (subst (KeysAre (λ (i : ℕ). keys_in placed ≤ i)) split more_high) j in
      absurd (omega (arith, high, key_low placed e (key_of e k)))

  pub more_apart : (e : ℕ) → KeyAt placed e → KeysAre (λ (k : ℕ). k ≢ e) more
  more_apart e k = keys_weaker (λ (i : ℕ). keys_in placed ≤ i) (λ (i : ℕ). i ≢ e) more (λ i le s. (let same : i ≡ e = s in absurd (omega (arith, le, same, key_low placed e k)))) more_high

  -- ---- displacements

  unless_copy : (pl : Placed) (k : ℕ) (o : Option OptOp) → slice_get pl.piece.ops k ≡ o → ((n : ℕ) → exit_if o ≡ Guarded n → is_bridge_of set.traces pl.piece.id.trace n bridge ≡ false) → is_copy_at set.traces bridge pl k ≡ false
  unless_copy pl k o e free = ap (λ (x : Option OptOp). is_from set.traces bridge pl.piece.id.trace (option_and_then guard_of x)) e ∙ by o free
    where
      guard : (op : OptOp) (q : Option ℕ) → guard_of op ≡ q → ((n : ℕ) → runs.exit_of op ≡ Guarded n → is_bridge_of set.traces pl.piece.id.trace n bridge ≡ false) → is_from set.traces bridge pl.piece.id.trace q ≡ false
      guard op None g free = refl
      guard op (Some n) g free = free n (exit_guard op n g)

      by : (x : Option OptOp) → ((n : ℕ) → exit_if x ≡ Guarded n → is_bridge_of set.traces pl.piece.id.trace n bridge ≡ false) → is_from set.traces bridge pl.piece.id.trace (option_and_then guard_of x) ≡ false
      by None free = refl
      by (Some op) free = guard op (guard_of op) refl free

  pub to_kept : (e : ℕ) (k : KeyAt placed e) → is_copy_at set.traces bridge k.pl k.k ≡ false → to_all all e ≡ to_all placed e
  to_kept e k other =
      key_same 0 (λ (pl : Placed) (j : ℕ). pl.to j) set bridge news placed e k
      ∙ ap (λ (b : Bool). cond b (begin_in news (record { trace = bridge; half = k.pl.piece.id.half })) (k.pl.to k.k)) other
      ∙ sym (key_is 0 (λ (pl : Placed) (j : ℕ). pl.to j) placed e k)

  pub by_kept : (e : ℕ) → IsKey model g e → ((n : ℕ) → g.exit e ≡ Guarded n → is_bridge_of set.traces (g.owner e).trace n bridge ≡ false) → h.by e ≡ g.by e
  by_kept e k free =
      let at = key_of e k in
      let exit = key_is Inside (λ (pl : Placed) (j : ℕ). exit_if (slice_get pl.piece.ops j)) placed e at in
      let owner = key_is (record { trace = 0; half = Pre }) (λ (pl : Placed) (j : ℕ). pl.piece.id) placed e at in
      let no = unless_copy at.pl at.k (slice_get at.pl.piece.ops at.k) refl (λ n is. (let none = free n (exit ∙ is) in ap (λ (q : PieceId). is_bridge_of set.traces q.trace n bridge) (sym owner) ∙ none)) in
      ap (λ (xs : List Slot). by_of (to_all all) 0 xs e) (slots_after set bridge news placed) ∙ by_same (to_all all) (to_all placed) e 0 (all_slots placed) more (to_kept e at no) (more_apart e at)

  -- ---- copies

  none_on : (p n : ℕ) (o : Option ℕ) → is_bridge_of set.traces p n bridge ≡ true → bridge_on set.traces bs p n ≡ o → o ≡ None
  none_on p n None is e = refl
  none_on p n (Some b) is e =
      let y = is_on set.traces bs p n b e in
      absurd (z.fresh (subst (Contains bs) (one_bridge set p n b bridge z.formed y.is is) (contains_of bs b y.has)))

  pub free : (q : PieceId) (n : ℕ) → is_bridge_of set.traces q.trace n bridge ≡ true → attached_bridge set.traces bs q.trace n ≡ None
  free q n is = attached_same set.traces bs q.trace n ∙ none_on q.trace n (bridge_on set.traces bs q.trace n) is refl

  now_on : (p n : ℕ) → is_bridge_of set.traces p n bridge ≡ true → attached_bridge set.traces (bs ++ bridge ∷ []) p n ≡ Some bridge
  now_on p n is =
      attached_same set.traces (bs ++ bridge ∷ []) p n
      ∙ on_append set.traces bs bridge p n None (none_on p n (bridge_on set.traces bs p n) is refl)
      ∙ ap (λ (b : Bool). cond b (Some bridge) None) is

  pub copies : (pl : runs.Placed) → Contains g.placed pl → (done rest : List OptOp) (op : OptOp) (n : ℕ) (front behind : List Slot) (x : Slot) → ops_at ps pl.id ≡ done ++ op ∷ rest → runs.exit_of op ≡ Guarded n
      → is_bridge_of set.traces pl.id.trace n bridge ≡ true → g.slots ≡ front ++ x ∷ behind → IsJumpOf x (pl.key + length done)
      → GuardLeads (widened model qs) h pl (length done) n (0x40000000 + (sizes_of front + size_of x)) (bridge_piece qs pl.id.half bridge)
  copies pl there done rest op n front behind x ops exit is split j =
      let p = image.pieces pl (grown.placed pl there) in
      let ops_now : ops_at qs pl.id ≡ done ++ op ∷ rest = ap ops_of (kept_run pl there) ∙ ops in
      let split_now : h.slots ≡ front ++ x ∷ (behind ++ more) = slots_after set bridge news placed ∙ ap (λ (l : List Slot). l ++ more) split ∙ append_assoc front (x ∷ behind) more in
      let leads = p.leads done rest op front (behind ++ more) x ops_now split_now j in
      let guarded = subst (Leads (widened model qs) h (bs ++ bridge ∷ []) pl (length done) (0x40000000 + (sizes_of front + size_of x))) exit leads in
      subst (GuardLeads (widened model qs) h pl (length done) n (0x40000000 + (sizes_of front + size_of x))) (ap (option_and_then (bridge_piece qs pl.id.half)) (now_on pl.id.trace n is)) guarded

  -- ---- rows

  mid : (a : ℕ) × (n : ℕ) × AreLaid (length (spelled common_code)) 0 (map f placed) a n × AreLaid a n news next.end next.last
  mid = laid_split (length (spelled common_code)) 0 next.end next.last (map f placed) news next.laid

  few : next.last ≤ 2 ^ 31
  few = few_last set (record { pieces = whole; settings = settings; bridges = new.attached }) qs all next

  mid_few : mid.1 ≤ 2 ^ 31
  mid_few = omega (arith, few, last_most mid.0 mid.1 next.end next.last news mid.3)

  old_below : (row : ExitRow) → Has (all_rows placed) row → row.exit < mid.1
  old_below row has = (rows_between (length (spelled common_code)) 0 mid.0 mid.1 placed row mid_few (laid_led set bridge news (length (spelled common_code)) 0 mid.0 mid.1 placed mid.2) has).1

  new_above : (row : ExitRow) → Has (all_rows news) row → mid.1 ≤ row.exit
  new_above row has = (rows_between mid.0 mid.1 next.end next.last news row few mid.3 has).0

  both_rows : all_rows all ≡ all_rows placed ++ all_rows news
  both_rows = rows_after set bridge news placed

  among : (row : ExitRow) → Contains (all_rows news) row → Contains (all_rows all) row
  among row c = contains_of (all_rows all) row (subst (λ (l : List ExitRow). Has l row) (sym both_rows) (has_right (all_rows placed) (all_rows news) row (has_of (all_rows news) row c)))

  -- the number of a key of an appended slot
  number_high : (e : ℕ) → (x : JumpAt h e) → keys_in placed ≤ e → mid.1 ≤ h.number e
  number_high e x high =
      let l = located_at all e x in
      by l (in_both (map f placed) news l.before l.after l.pl l.here)
    where
      by : (l : Located all e) → InBoth (map f placed) news l.before l.after l.pl → mid.1 ≤ h.number e
      by l (First last here is) =
          let within = within_ops l.pl.piece.ops l.done l.rest l.op l.split in
          absurd (omega (arith, high, l.key, within, ap keys_in here, keys_in-append l.before (l.pl ∷ last), keys_led set bridge news placed))
      by l (Second front here is) =
          let s = stands mid.0 mid.1 next.end next.last 0 front l.after l.pl few (subst (λ (xs : List Placed). AreLaid mid.0 mid.1 xs next.end next.last) here mid.3) in
          let number : h.number e ≡ exit_of l.pl (length l.done) = ap (λ (xs : List Placed). (image_of xs).number e) l.here ∙ ap (λ (i : ℕ). (image_of (l.before ++ l.pl ∷ l.after)).number i) l.key ∙ says_number l.before l.after l.pl l.done l.rest l.op l.split in
          omega (arith, s.least, number)

  new_row : (e : ℕ) (guard : Option ℕ) (row : ExitRow) → (x : JumpAt h e) → keys_in placed ≤ e → RowOf h (all_rows all) e guard row → RowOf h (all_rows news) e guard row
  new_row e guard row x high of = (by (has_cases (all_rows placed) (all_rows news) row (subst (λ (l : List ExitRow). Has l row) both_rows (has_of (all_rows all) row of.0))), of.1, of.2, of.3)
    where
      by : Has (all_rows placed) row ⊎ Has (all_rows news) row → Contains (all_rows news) row
      by (inl w) = absurd (omega (arith, old_below row w, number_high e x high, of.1))
      by (inr w) = contains_of (all_rows news) row w

  abbrev jump_more : (e : ℕ) (front behind : List Slot) (x : Slot) → more ≡ front ++ x ∷ behind → IsJumpOf x e → JumpAt h e
  jump_more e front behind x split j = record {
    front = all_slots placed ++ front;
    slot = x;
    behind = behind;
    split = slots_after set bridge news placed ∙ ap (λ (l : List Slot). all_slots placed ++ l) split ∙ sym (append_assoc (all_slots placed) front (x ∷ behind));
    jump = j;
  }

  high_key : (e : ℕ) (front behind : List Slot) (x : Slot) → more ≡ front ++ x ∷ behind → IsJumpOf x e → keys_in placed ≤ e
  high_key e front behind x split j = key_at (λ (i : ℕ). keys_in placed ≤ i) front behind x e (subst (KeysAre (λ (i : ℕ). keys_in placed ≤ i)) split more_high) j

  more_guards : (e n : ℕ) (front behind : List Slot) (x : Slot) → more ≡ front ++ x ∷ behind → IsJumpOf x e → h.exit e ≡ Guarded n
      → (row : ExitRow) × (row.at ≡ sizes_of g.slots + sizes_of front + disp_in x) × RowOf h (all_rows news) e (Some n) row
  more_guards e n front behind x split j exit =
      let at = jump_more e front behind x split j in
      let y = image.rows_are.guards e n at exit in
      (y.0, omega (arith, y.1, sizes-append (all_slots placed) front), new_row e (Some n) y.0 at (high_key e front behind x split j) y.2)

  more_finishes : (e : ℕ) (front behind : List Slot) (x : Slot) → more ≡ front ++ x ∷ behind → IsJumpOf x e → h.exit e ≡ Finishing → (row : ExitRow) × RowOf h (all_rows news) e None row
  more_finishes e front behind x split j exit =
      let at = jump_more e front behind x split j in
      let y = image.rows_are.finishes e at exit in
      (y.0, new_row e None y.0 at (high_key e front behind x split j) y.1)

  pub rows_more : RowsMore g h more (all_rows placed) (all_rows news)
  rows_more = record {
    each = λ row c is. image.rows_are.each row (among row c) is;
    guards = more_guards;
    finishes = more_finishes;
    one = λ a b ca cb e. image.rows_are.one a b (among a ca) (among b cb) e;
    apart = λ a b ca cb e. (let same : a.exit ≡ b.exit = e in absurd (omega (arith, old_below a (has_of (all_rows placed) a ca), new_above b (has_of (all_rows news) b cb), same)));
  }

  -- ---- all of it

  unfoldable pub attaches : Attaches model qs g h bs bridge (all_rows placed) (all_rows news)
  attaches = record {
    kept = kept;
    grown = grown;
    have = image.have;
    small = image.small;
    common = refl;
    keys = keys;
    owned = owned;
    away = away;
    by = by_kept;
    free = free;
    copies = copies;
    pieces = λ pl there. inr (image.pieces pl there);
    closed = image.closed;
    rows_more = rows_more;
  }
