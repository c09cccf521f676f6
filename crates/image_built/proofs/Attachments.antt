-- Attachments, one after another: what they make is built.
use Rattle.std.proofs.Common.{◌≡◌, ℕ, zero, suc, ◌+◌, ◌-◌, ◌<◌, ◌≤◌, List, [], ◌∷◌, ◌++◌, map, take, append_assoc, Some, refl, sym, ap, ◌∙◌, subst, arith}
use Rattle.std.specs.Prelude.{slice_get}
use Rattle.std.specs.List.{AllByRecursion, flat_map}
use Rattle.std.proofs.lemmas.List.{append-nil}
use Rattle.std.proofs.lemmas.Option.{slice_get_within}
use Rattle.lists.specs.Has.{Has}
use Rattle.trace_ops.specs.declared.trace.TraceSet.{TraceSet}
use Rattle.trace_ops.specs.declared.piece.Piece.{Piece}
use Rattle.trace_ops.specs.declared.piece.PieceId.{PieceId}
use Rattle.trace_ops.specs.declared.piece.OptTrace.{OptTrace}
use Rattle.opt_meaning.specs.Pieces.{all_pieces, piece_at, ops_at}
use Rattle.guard_exit.specs.declared.row.ExitRow.{ExitRow}
use Rattle.asm_select.specs.Chosen.{Setting}
use Rattle.asm_select.specs.Laid.{ChosenAreShort}
use Rattle.code_layout.specs.Chosen.{ChosenJumps}
use Rattle.bridge_patch.specs.Pieces.{Placed, all_rows}
use Rattle.bridge_patch.specs.Image.{Imaged}
use Rattle.bridge_patch.specs.Bridged.{LacksParent}
use Rattle.bridge_patch.specs.Attached.{IsImageOf, AreOfBridge}
use Rattle.image_runs.specs.Session.{Host}
use Rattle.image_runs.specs.Printed.{Part, Printed, rows_at, bridges_at}
use Rattle.image_runs.specs.Image.{IsImage}
use Rattle.image_runs.specs.Attachment.{Attaches}
use Rattle.image_runs.specs.Patched.{IsPart}
use Rattle.image_runs.specs.Sessions.{IsBuilt}
use Rattle.image_model.specs.Modelled.{model_of}
use Rattle.image_model.specs.Laws.{HostServes}
use Rattle.image_model.specs.Staying.{SoundPiecesStayReady}
use Rattle.image_built.specs.Built.{keyed, image_of}
use Rattle.image_built.specs.Laws.{Keeps, HostStarts, IsPrinted}
use Rattle.image_built.specs.Attached.{Attached, IsPrintedWith, AttachedIsBuilt, settings_with, model_with, pieces_in, part_of}
use Rattle.image_built.proofs.Splitting.{keys_in}
use Rattle.image_built.proofs.Naming.{TellsNames, AreOnce, piece_of, some_is, loops_once}
use Rattle.image_built.proofs.Placing.{Setup, Made}
use Rattle.image_built.proofs.Growing.{piece_more}
use Rattle.image_built.proofs.Imaging.{Relies, code_is, image_is}
use Rattle.image_built.proofs.Starting.{HasEntry, Enters, starts_begin}
use Rattle.image_built.proofs.Standing.{made_of, settled, entries_of}
use Rattle.image_built.proofs.Attaching.{Joins, after, pieces_after, settled_before, once_after, parents_after, made_after}
use Rattle.image_built.proofs.Parted.{IsAttached, is_attached, new_rows}

-- ---- what is printed

-- one more of a list
take_next : {X : Type 0} (xs : List X) (j : ℕ) (x : X) → slice_get xs j ≡ Some x → take (j + 1) xs ≡ take j xs ++ x ∷ []
take_next [] j x e = absurd (cc)
take_next (y ∷ xs) zero x e = ap (λ z. z ∷ []) (some_is e)
take_next (y ∷ xs) (suc j) x e = (let n : suc j + 1 ≡ suc (j + 1) = omega arith in ap (λ (k : ℕ). take k (y ∷ xs)) n ∙ ap (λ l. y ∷ l) (take_next xs j x e))

map_end : {X Y : Type 0} (f : X → Y) (xs : List X) (x : X) → map f (xs ++ x ∷ []) ≡ map f xs ++ f x ∷ []
map_end f [] x = refl
map_end f (y ∷ xs) x = ap (λ l. f y ∷ l) (map_end f xs x)

flat_end : {X Y : Type 0} (f : X → List Y) (xs : List X) (x : X) → flat_map f (xs ++ x ∷ []) ≡ flat_map f xs ++ f x
flat_end f [] x = append-nil (f x)
flat_end f (y ∷ xs) x = ap (λ l. f y ++ l) (flat_end f xs x) ∙ sym (append_assoc (f y) (flat_map f xs) (f x))

bridges_next : (im : Printed) (j : ℕ) (x : Part) → slice_get im.parts j ≡ Some x → bridges_at im (j + 1) ≡ bridges_at im j ++ x.bridge ∷ []
bridges_next im j x e = ap (map (λ (p : Part). p.bridge)) (take_next im.parts j x e) ∙ map_end (λ (p : Part). p.bridge) (take j im.parts) x

rows_next : (im : Printed) (j : ℕ) (x : Part) → slice_get im.parts j ≡ Some x → rows_at im (j + 1) ≡ rows_at im j ++ x.rows
rows_next im j x e =
    ap (λ (l : List Part). im.rows ++ flat_map (λ (p : Part). p.rows) l) (take_next im.parts j x e)
    ∙ ap (λ (l : List ExitRow). im.rows ++ l) (flat_end (λ (p : Part). p.rows) (take j im.parts) x)
    ∙ sym (append_assoc im.rows (flat_map (λ (p : Part). p.rows) (take j im.parts)) x.rows)

-- ---- moments

-- no name stands twice, the image is one, and no bridge lacks its parent
record Stage (set : TraceSet) (placed : List Placed) (image : Imaged) : Type 0 where
  once : AreOnce (map piece_of placed)
  here : IsImageOf set placed image
  parents : (b : ℕ) → Has image.attached b → ¬ LacksParent set image.attached b

-- the whole of the pieces and the settings are theirs
record Theirs (whole : List Piece) (settings : PieceId → Setting) (placed : List Placed) : Type 0 where
  within : (q : PieceId) (p : Piece) → piece_at (map piece_of placed) q ≡ Some p → ops_at whole q ≡ p.ops
  settled : (before more : List Placed) (pl : Placed) → placed ≡ before ++ pl ∷ more → settings pl.piece.id ≡ keyed (keys_in before) pl.setting

no_has : {X : Type 0} (xs : List X) (x : X) → xs ≡ [] → Has xs x → ⊥
no_has {X = X} xs x e h = subst (λ (l : List X). Has l x) e h

module _ (names : TellsNames) (jumps : ChosenJumps) (short : ChosenAreShort) (stays : SoundPiecesStayReady) (set : TraceSet) (whole : List Piece) (other : PieceId → Setting) (loops : List OptTrace) (count : ℕ) (z : Attached set loops count) where
  abbrev pub settings : PieceId → Setting
  settings = settings_with set loops count z other

  abbrev joins : (j : ℕ) (lt : j < count) → Stage set (z.placed j) (z.image j) → Joins set (z.bridge j) (z.pieces j) (z.placed j) (z.image j) (z.image (j + 1))
  joins j lt s =
      let can = z.can j lt in record {
        range = can.0.range;
        formed = can.0.formed;
        is_bridge = can.0.is_bridge;
        fresh = can.0.fresh;
        parent = can.0.parent;
        fit = subst (λ (l : List Placed). AreOfBridge set l (z.bridge j) (z.pieces j)) can.1 can.0.pieces_fit;
        here = s.here;
        attached = (z.changed j lt).attached;
        grown = z.grown j lt;
        parents = s.parents;
      }

  first_stage : Stage set (z.placed 0) (z.image 0)
  first_stage = record {
    once = subst AreOnce (sym z.compiled.made.pieces ∙ ap (map piece_of) (sym z.first)) (loops_once names set.traces loops z.compiled.can.each);
    here = z.stands;
    parents = λ b has. absurd (no_has (z.image 0).attached b z.none has);
  }

  next_stage : (j : ℕ) (lt : j < count) → Stage set (z.placed j) (z.image j) → Stage set (z.placed (j + 1)) (z.image (j + 1))
  next_stage j lt s =
      let y = joins j lt s in
      let there = sym (z.next j lt) in record {
        once = subst (λ (l : List Placed). AreOnce (map piece_of l)) there (once_after names set (z.bridge j) (z.pieces j) (z.placed j) (z.image j) (z.image (j + 1)) y s.once);
        here = subst (λ (l : List Placed). IsImageOf set l (z.image (j + 1))) there (z.grown j lt).image_of;
        parents = parents_after set (z.bridge j) (z.pieces j) (z.placed j) (z.image j) (z.image (j + 1)) y;
      }

  stage : (j : ℕ) → j ≤ count → Stage set (z.placed j) (z.image j)
  stage zero le = first_stage
  stage (suc j) le =
      let n : j + 1 ≡ suc j = omega arith in
      subst (λ (k : ℕ). Stage set (z.placed k) (z.image k)) n (next_stage j (omega (arith, le)) (stage j (omega (arith, le))))

  -- from the last moment back
  last_theirs : Keeps (pieces_in (z.placed count)) whole → Theirs whole settings (z.placed count)
  last_theirs keeps = record { within = keeps; settled = settled names (map piece_of (z.placed count)) (z.placed count) other refl (stage count (omega arith)).once }

  before_theirs : (j : ℕ) (lt : j < count) → Theirs whole settings (z.placed (j + 1)) → Theirs whole settings (z.placed j)
  before_theirs j lt t =
      let news = (z.grown j lt).news in
      let here : z.placed (j + 1) ≡ after set (z.bridge j) news (z.placed j) = z.next j lt in
      let u = subst (Theirs whole settings) here t in record {
        within = λ q p e. u.within q p (ap (λ (l : List Piece). piece_at l q) (pieces_after set (z.bridge j) news (z.placed j)) ∙ piece_more (map piece_of (z.placed j)) (map piece_of news) q p e);
        settled = settled_before set (z.bridge j) news (z.placed j) settings u.settled;
      }

  back_theirs : Keeps (pieces_in (z.placed count)) whole → (d j : ℕ) → j + d ≡ count → Theirs whole settings (z.placed j)
  back_theirs keeps zero j e = (let n : count ≡ j = omega (arith, e) in subst (λ (k : ℕ). Theirs whole settings (z.placed k)) n (last_theirs keeps))
  back_theirs keeps (suc d) j e = before_theirs j (omega (arith, e)) (back_theirs keeps d (j + 1) (omega (arith, e)))

  theirs : Keeps (pieces_in (z.placed count)) whole → (j : ℕ) → j ≤ count → Theirs whole settings (z.placed j)
  theirs keeps j le = back_theirs keeps (count - j) j (omega (arith, le))

  abbrev pub MadeAt : ℕ → Type 0
  MadeAt j = Made set (record { pieces = whole; settings = settings; bridges = (z.image j).attached }) (map piece_of (z.placed j)) (z.placed j)

  module _ (im : Printed) (printed : IsPrintedWith set loops count z im) where
    bridges_are : (j : ℕ) → j ≤ count → bridges_at im j ≡ (z.image j).attached
    bridges_are zero le = sym z.none
    bridges_are (suc j) le =
        let lt : j < count = omega (arith, le) in
        let n : j + 1 ≡ suc j = omega arith in
        let next = bridges_next im j _ (printed.parts j lt) ∙ ap (λ (l : List ℕ). l ++ z.bridge j ∷ []) (bridges_are j (omega (arith, le))) ∙ sym (z.changed j lt).attached in
        subst (λ (k : ℕ). bridges_at im k ≡ (z.image k).attached) n next

    pub rows_are : (j : ℕ) → j ≤ count → rows_at im j ≡ (z.image j).exits
    rows_are zero le = append-nil im.rows ∙ printed.loops_are.rows
    rows_are (suc j) le =
        let lt : j < count = omega (arith, le) in
        let n : j + 1 ≡ suc j = omega arith in
        let next = rows_next im j _ (printed.parts j lt) ∙ ap (λ (l : List ExitRow). l ++ (z.changed j lt).rows) (rows_are j (omega (arith, le))) ∙ sym (z.changed j lt).exits in
        subst (λ (k : ℕ). rows_at im k ≡ (z.image k).exits) n next

  -- the rows of the last moment
  pub exits_are : (z.image count).exits ≡ all_rows (z.placed count)
  exits_are = (stage count (omega arith)).here.exits

  module _ (keeps : Keeps (pieces_in (z.placed count)) whole) where
    first_made : MadeAt 0
    first_made =
        let t = theirs keeps 0 (omega arith) in
        let same : map piece_of (z.placed 0) ≡ all_pieces loops = ap (map piece_of) z.first ∙ z.compiled.made.pieces in
        let within : Keeps (all_pieces loops) whole = subst (λ (l : List Piece). Keeps l whole) same t.within in
        let made = made_of names jumps short stays set whole settings loops (z.image 0) z.compiled within (λ before more pl e. t.settled before more pl (z.first ∙ e)) in
        subst (λ (bs : List ℕ). Made set (record { pieces = whole; settings = settings; bridges = bs }) (map piece_of (z.placed 0)) (z.placed 0)) (sym z.none)
        (subst (λ (l : List Piece). Made set (record { pieces = whole; settings = settings; bridges = [] }) l (z.placed 0)) (sym same)
        (subst (λ (l : List Placed). Made set (record { pieces = whole; settings = settings; bridges = [] }) (all_pieces loops) l) (sym z.first) made))

    -- behind one more attachment
    made_behind : (j : ℕ) (lt : j < count) (st : Stage set (z.placed j) (z.image j)) → MadeAt j
        → Made set (record { pieces = whole; settings = settings; bridges = (z.image (j + 1)).attached }) (map piece_of (after set (z.bridge j) (z.grown j lt).news (z.placed j))) (after set (z.bridge j) (z.grown j lt).news (z.placed j))
    made_behind j lt st m =
        let t = subst (Theirs whole settings) (z.next j lt) (theirs keeps (j + 1) (omega (arith, lt))) in
        made_after set whole settings (z.bridge j) (z.pieces j) (z.placed j) (z.image j) (z.image (j + 1)) (joins j lt st) m stays t.within t.settled

    next_made : (j : ℕ) (lt : j < count) → MadeAt j → MadeAt (j + 1)
    next_made j lt m =
        subst (λ (l : List Placed). Made set (record { pieces = whole; settings = settings; bridges = (z.image (j + 1)).attached }) (map piece_of l) l) (sym (z.next j lt))
        (made_behind j lt (stage j (omega (arith, lt))) m)

    pub made : (j : ℕ) → j ≤ count → MadeAt j
    made zero le = first_made
    made (suc j) le = (let n : j + 1 ≡ suc j = omega arith in subst MadeAt n (next_made j (omega (arith, le)) (made j (omega (arith, le)))))

    -- ---- what is printed of it

    module _ (host : Host) (r : Relies host) (enters : Enters) (serves : HostServes host set.table) (starts : HostStarts host set) (im : Printed) (printed : IsPrintedWith set loops count z im) where
      part_at : (j : ℕ) (lt : j < count) → Part
      part_at j lt = part_of set (z.bridge j) (z.pieces j) (z.image j) (z.image (j + 1)) (z.changed j lt)

      -- an attachment, by the part that is printed of it
      abbrev AttachesBy : ℕ → Part → Type 0
      AttachesBy j x =
          (a : Attaches (model_of host set whole settings (pieces_in (z.placed j))) (pieces_in (z.placed (j + 1))) (image_of (z.placed j)) (image_of (z.placed (j + 1))) (bridges_at im j) x.bridge (rows_at im j) x.rows)
          × IsPart (image_of (z.placed j)) (image_of (z.placed (j + 1))) a.grown x

      attached_by : (j : ℕ) (lt : j < count) (st : Stage set (z.placed j) (z.image j)) (m : MadeAt j) → AttachesBy j (part_of set (z.bridge j) (z.pieces j) (z.image j) (z.image (j + 1)) (z.changed j lt))
      attached_by j lt st m =
          let old = z.image j in
          let new = z.image (j + 1) in
          let y = joins j lt st in
          let c = z.changed j lt in
          let news = (z.grown j lt).news in
          let behind = made_behind j lt st m in
          let one = is_attached host r set whole settings (z.bridge j) (z.pieces j) (z.placed j) old new y m behind serves c in
          let is = λ (bs : List ℕ) (rows more : List ExitRow) (l : List Placed). IsAttached host r set whole settings (z.bridge j) (z.pieces j) (z.placed j) old new y m behind serves c bs rows more l in
          let rows : all_rows (z.placed j) ≡ rows_at im j = sym (rows_are im printed j (omega (arith, lt)) ∙ st.here.exits) in
          let more : all_rows news ≡ c.rows = sym (new_rows host r set whole settings (z.bridge j) (z.pieces j) (z.placed j) old new y m behind serves c) in
          subst (is (bridges_at im j) (rows_at im j) c.rows) (sym (z.next j lt))
          (subst (λ (bs : List ℕ). is bs (rows_at im j) c.rows (after set (z.bridge j) news (z.placed j))) (sym (bridges_are im printed j (omega (arith, lt))))
          (subst (λ (l : List ExitRow). is old.attached l c.rows (after set (z.bridge j) news (z.placed j))) rows
          (subst (λ (l : List ExitRow). is old.attached (all_rows (z.placed j)) l (after set (z.bridge j) news (z.placed j))) more one)))

      attached_is : (j : ℕ) (x : Part) → slice_get im.parts j ≡ Some x → AttachesBy j x
      attached_is j x e =
          let lt : j < count = omega (arith, slice_get_within im.parts j x e, printed.many) in
          let same : part_of set (z.bridge j) (z.pieces j) (z.image j) (z.image (j + 1)) (z.changed j lt) ≡ x = some_is (sym (printed.parts j lt) ∙ e) in
          subst (AttachesBy j) same (attached_by j lt (stage j (omega (arith, lt))) (made j (omega (arith, lt))))

      first_pieces : all_pieces loops ≡ map piece_of (z.placed 0)
      first_pieces = sym z.compiled.made.pieces ∙ ap (map piece_of) (sym z.first)

      pub is_built : IsBuilt (model_with host set whole other loops count z) (λ j. pieces_in (z.placed j)) (λ j. image_of (z.placed j)) im
      is_built =
          let setup : Setup = record { pieces = whole; settings = settings; bridges = (z.image 0).attached } in
          let m = made 0 (omega arith) in
          let ps = map piece_of (z.placed 0) in
          let image = image_is host r set setup ps (z.placed 0) im.rows serves m (printed.loops_are.rows ∙ z.stands.exits) in
          let entries = subst (AllByRecursion HasEntry) (sym z.first) (entries_of set z.compiled.made.placed z.compiled.made.chosen z.compiled.made.fronts) in
          let text = subst (λ (l : List Piece). IsPrinted set l (z.image 0) im) first_pieces printed.loops_are in
          record {
            base = text.base ∙ z.stands.code ∙ sym (code_is set setup ps (z.placed 0) m);
            compiled = subst (λ (bs : List ℕ). IsImage (model_of host set whole settings ps) (image_of (z.placed 0)) bs im.rows) z.none image;
            attached = attached_is;
            begins = λ trace entry inputs given s has started. starts_begin host enters set setup ps (z.placed 0) (z.image 0) trace entry inputs given s m entries z.stands.heres (text.entries trace entry has) (starts trace entry inputs s started);
          }

pub attached_is_built : (host : Host) → TellsNames → ChosenJumps → ChosenAreShort → SoundPiecesStayReady → Relies host → Enters → AttachedIsBuilt host
attached_is_built host names jumps short stays relies enters set whole other loops count z im serves starts keeps printed = is_built names jumps short stays set whole other loops count z keeps host relies enters serves starts im printed
