-- The laws, from what is proved of pieces that are placed.
use Rattle.std.proofs.Common.{◌≡◌, ℕ, ◌+◌, List, [], ◌∷◌, ◌++◌, length, map, refl, sym, ap, ◌∙◌, subst, arith, Some, None}
use Rattle.std.specs.Prelude.{slice_get}
use Rattle.std.specs.List.{All, AllByRecursion, AllZip}
use Rattle.std.proofs.lemmas.Int.{ints}
use Rattle.trace_ops.specs.declared.trace.Arg.{Arg}
use Rattle.trace_ops.specs.declared.trace.BoxId.{BoxId}
use Rattle.trace_ops.specs.declared.trace.TraceSet.{TraceSet}
use Rattle.trace_ops.specs.declared.piece.Half.{Half}
use Rattle.trace_ops.specs.declared.piece.Half.TheVariants.{Pre, Body}
use Rattle.trace_ops.specs.declared.piece.PieceId.{PieceId}
use Rattle.trace_ops.specs.declared.piece.OptOp.{OptOp}
use Rattle.trace_ops.specs.declared.piece.OptOp.TheVariants as opt
use Rattle.trace_ops.specs.declared.piece.Piece.{Piece}
use Rattle.trace_ops.specs.declared.piece.OptTrace.{OptTrace}
use Rattle.trace_ops.specs.Pieces.{FitsLabel}
use Rattle.trace_ops.specs.Sound.{IsSound}
use Rattle.target_base.specs.declared.place.Place.{Place}
use Rattle.opt_meaning.specs.Pieces.{all_pieces, piece_at}
use Rattle.x64_encode.specs.declared.instr.Instr.{Instr}
use Rattle.asm_select.specs.Slots.{Jumps, HaveRows, puts}
use Rattle.asm_select.specs.Chosen.{Setting}
use Rattle.asm_select.specs.Laid.{ChosenAreShort}
use Rattle.code_layout.specs.Chosen.{ChosenJumps}
use Rattle.bridge_patch.specs.Pieces.{Placed, IsChosen, label_places, loop_front, start_in, Leads, AllLead}
use Rattle.bridge_patch.specs.Attached.{places_in, LeadsNow, AllLeadNow}
use Rattle.bridge_patch.specs.Image.{Imaged, label_in}
use Rattle.image_model.specs.Staying.{SoundPiecesStayReady}
use Rattle.image_runs.specs.Session.{Host}
use Rattle.image_runs.specs.Printed.{Part}
use Rattle.image_runs.specs.Image.{IsImage}
use Rattle.image_built.specs.Built.{keyed, image_of, settings_from}
use Rattle.image_built.specs.Laws.{Compiled, Keeps, model_for, CompiledStands, CompiledBegins, CompiledIsBuilt}
use Rattle.image_built.proofs.Splitting.{keys_in}
use Rattle.image_built.proofs.Naming.{TellsNames, AreOnce, piece_of, all_here, all_at, each_weaker, at_split, found, reaches, loops_once}
use Rattle.image_built.proofs.Placing.{Setup, IsSet, IsLawful, HasMoves, Made, stay_ready, op_at}
use Rattle.image_built.proofs.Imaging.{Relies, slots_short, code_is, image_is}
use Rattle.image_built.proofs.Shortening.{code_short}
use Rattle.image_built.proofs.Starting.{HasEntry, Enters, starts_begin}

-- what holds of the pieces, of those that are placed
of_placed : (P : Piece → Type 0) (pls : List Placed) → AllByRecursion P (map piece_of pls) → AllByRecursion (λ (pl : Placed). P pl.piece) pls
of_placed P [] h = tt
of_placed P (pl ∷ pls) h = (h.0, of_placed P pls h.1)

front_rows : (by : Jumps) (h : Half) → HaveRows by (puts (loop_front h))
front_rows by Pre = ((omega arith, omega arith, omega (arith, ints)), tt)
front_rows by Body = tt

fronts_rows : (pls : List Placed) → AllByRecursion (λ (pl : Placed). pl.front ≡ loop_front pl.piece.id.half) pls → AllByRecursion HasMoves pls
fronts_rows [] h = tt
fronts_rows (pl ∷ pls) h = (λ by. subst (λ (l : List Instr). HaveRows by (puts l)) (sym h.0) (front_rows by pl.piece.id.half), fronts_rows pls h.1)

pub entries_of : (set : TraceSet) (pls : List Placed) → AllByRecursion (IsChosen set) pls → AllByRecursion (λ (pl : Placed). pl.front ≡ loop_front pl.piece.id.half) pls → AllByRecursion HasEntry pls
entries_of set [] c f = tt
entries_of set (pl ∷ pls) c f = (record { front = f.0; label = c.0.label }, entries_of set pls c.1 f.1)

-- ---- where jumps lead, to which no bridge is attached

zip_same : (f : BoxId → Place) (ps : List Place) (bs : List BoxId) → AllZip (λ (p : Place) (b : BoxId). f b ≡ p) ps bs → map f bs ≡ ps
zip_same f [] [] h = refl
zip_same f [] (b ∷ bs) h = absurd h
zip_same f (p ∷ ps) [] h = absurd h
zip_same f (p ∷ ps) (b ∷ bs) h = ap (λ (q : Place). q ∷ map f bs) h.0 ∙ ap (λ (l : List Place). p ∷ l) (zip_same f ps bs h.1)

module _ (names : TellsNames) (set : TraceSet) (ps : List Piece) (placed : List Placed) (same : map piece_of placed ≡ ps) (chosen : AllByRecursion (IsChosen set) placed) where
  places_there : (args : List Arg) (to : PieceId) → FitsLabel (label_in ps) (opt.Jump to args) → label_places (length args) ≡ places_in placed to
  places_there args to fits =
      let r = reaches ps args to fits in
      let f = found names placed to r.piece (subst (λ (l : List Piece). piece_at l to ≡ Some r.piece) (sym same) r.at) in
      let own = all_here (IsChosen set) f.before f.after f.pl (subst (AllByRecursion (IsChosen set)) f.here chosen) in
      ap label_places (r.long ∙ ap (λ (p : Piece). length p.label) (sym f.piece)) ∙ sym (zip_same (λ (b : BoxId). f.pl.setting.at b.number) (label_places (length f.pl.piece.label)) f.pl.piece.label own.label) ∙ sym f.places

  leads_now : (pl : Placed) (k : ℕ) (op : OptOp) → FitsLabel (label_in ps) op → Leads (start_in placed) pl k op → LeadsNow set.traces [] placed pl k op
  leads_now pl k (opt.Plain operation r args d) fits h = tt
  leads_now pl k (opt.Guard operation args n snap) fits h = h
  leads_now pl k (opt.Exit n snap) fits h = h
  leads_now pl k (opt.Jump to args) fits h = (h.0, h.1 ∙ places_there args to fits)
  leads_now pl k (opt.Finish value) fits h = h

  all_lead : (pls : List Placed) → AllByRecursion (λ (pl : Placed). All (FitsLabel (label_in ps)) pl.piece.ops) pls → AllByRecursion (AllLead (start_in placed)) pls → AllByRecursion (AllLeadNow set.traces [] placed) pls
  all_lead [] fits h = tt
  all_lead (pl ∷ pls) fits h = (λ done rest op e. leads_now pl (length done) op (all_at (FitsLabel (label_in ps)) pl.piece.ops (length done) op fits.0 (op_at pl.piece.ops done rest op e)) (h.0 done rest op e), all_lead pls fits.1 h.1)

no_bridge : {A : Type 0} (b : ℕ) → None ≡ Some b → A
no_bridge b e = absurd (cc)

pub settled : TellsNames → (ps : List Piece) (placed : List Placed) (other : PieceId → Setting) → map piece_of placed ≡ ps → AreOnce ps → (before after : List Placed) (pl : Placed) → placed ≡ before ++ pl ∷ after → settings_from 0 placed other pl.piece.id ≡ keyed (keys_in before) pl.setting
settled names ps placed other same once before after pl e =
    let here = at_split names 0 other before after pl (subst (λ (l : List Placed). AreOnce (map piece_of l)) e (subst AreOnce (sym same) once)) in
    let n : 0 + keys_in before ≡ keys_in before = omega arith in
    ap (λ (l : List Placed). settings_from 0 l other pl.piece.id) e ∙ here.setting ∙ ap (λ (k : ℕ). keyed k pl.setting) n

-- the compiled pieces, with any settings that are theirs
pub made_of : TellsNames → ChosenJumps → ChosenAreShort → SoundPiecesStayReady → (set : TraceSet) (whole : List Piece) (settings : PieceId → Setting) (loops : List OptTrace) (image : Imaged) (z : Compiled set loops image) → Keeps (all_pieces loops) whole
    → ((before after : List Placed) (pl : Placed) → z.made.placed ≡ before ++ pl ∷ after → settings pl.piece.id ≡ keyed (keys_in before) pl.setting)
    → Made set (record { pieces = whole; settings = settings; bridges = [] }) (all_pieces loops) z.made.placed
made_of names jumps few stays set whole settings loops image z keeps settle =
    let ps = all_pieces loops in
    let placed = z.made.placed in
    let sound = each_weaker (IsSound set (label_in ps)) (IsLawful set) ps (λ p h. record { label_of = label_in ps; sound = h }) z.can.sound in
    let fits = each_weaker (IsSound set (label_in ps)) (λ (p : Piece). All (FitsLabel (label_in ps)) p.ops) ps (λ p h. h.jumps_fit) z.can.sound in
    let here = of_placed (λ (p : Piece). All (FitsLabel (label_in ps)) p.ops) placed (subst (AllByRecursion (λ (p : Piece). All (FitsLabel (label_in ps)) p.ops)) (sym z.made.pieces) fits) in
    record {
      names = names;
      jumps = jumps;
      pieces = z.made.pieces;
      end = z.made.end;
      last = z.made.last;
      laid = z.made.laid;
      chosen = each_weaker (IsChosen set) (IsSet set) placed (λ pl h. record { table = h.table; serves = h.serves; hold = h.hold; apart = h.apart; safe = h.safe; chosen = h.chosen }) z.made.chosen;
      leads = all_lead names set ps placed z.made.pieces z.made.chosen placed here z.made.leads;
      short = slots_short placed z.made.end z.made.last image.bytes z.made.laid z.made.code (code_short few set loops z.registers placed image.bytes z.can z.made.pieces z.made.chosen z.made.fronts z.made.code);
      once = loops_once names set.traces loops z.can.each;
      sound = sound;
      fits = fits;
      guards = z.can.guards;
      ready = stay_ready stays set ps z.can.range.table sound;
      fronts = fronts_rows placed z.made.fronts;
      bridged = λ before after pl done rest op n b here_is split guard is. no_bridge b is;
      within = keeps;
      settled = settle;
    }

pub own_made : TellsNames → ChosenJumps → ChosenAreShort → SoundPiecesStayReady → (set : TraceSet) (whole : List Piece) (other : PieceId → Setting) (loops : List OptTrace) (image : Imaged) (z : Compiled set loops image) → Keeps (all_pieces loops) whole
    → Made set (record { pieces = whole; settings = settings_from 0 z.made.placed other; bridges = [] }) (all_pieces loops) z.made.placed
own_made names jumps few stays set whole other loops image z keeps =
    made_of names jumps few stays set whole (settings_from 0 z.made.placed other) loops image z keeps (settled names (all_pieces loops) z.made.placed other z.made.pieces (loops_once names set.traces loops z.can.each))

abbrev setup : List Piece → (PieceId → Setting) → Setup
setup whole settings = record { pieces = whole; settings = settings; bridges = [] }

pub compiled_stands : (host : Host) → TellsNames → ChosenJumps → ChosenAreShort → SoundPiecesStayReady → Relies host → CompiledStands host
compiled_stands host names jumps few stays relies set whole other loops image z serves keeps =
    let m = own_made names jumps few stays set whole other loops image z keeps in
    let s = setup whole (settings_from 0 z.made.placed other) in record {
      bytes = code_is set s (all_pieces loops) z.made.placed m ∙ sym z.made.code;
      stands = image_is host relies set s (all_pieces loops) z.made.placed image.exits serves m z.made.exits;
    }

pub compiled_begins : (host : Host) → TellsNames → ChosenJumps → ChosenAreShort → SoundPiecesStayReady → Enters → CompiledBegins host
compiled_begins host names jumps few stays enters set whole other loops image z im starts keeps printed trace entry inputs given s has started =
    let m = own_made names jumps few stays set whole other loops image z keeps in
    starts_begin host enters set (setup whole (settings_from 0 z.made.placed other)) (all_pieces loops) z.made.placed image trace entry inputs given s m (entries_of set z.made.placed z.made.chosen z.made.fronts) z.made.heres (printed.entries trace entry has) (starts trace entry inputs s started)

no_part : {A : Type 0} (xs : List Part) (j : ℕ) (x : Part) → xs ≡ [] → slice_get xs j ≡ Some x → A
no_part xs j x e h = absurd (none (sym (ap (λ (l : List Part). slice_get l j) e) ∙ h))
  where
    none : None ≡ Some x → ⊥
    none z = absurd (cc)

pub compiled_is_built : (host : Host) → CompiledStands host → CompiledBegins host → CompiledIsBuilt host
compiled_is_built host stands begins set whole other loops image z im serves starts keeps printed parts =
    let s = stands set whole other loops image z serves keeps in record {
      base = printed.base ∙ sym s.bytes;
      compiled = subst (IsImage (model_for host set whole other loops image z) (image_of z.made.placed) []) (sym printed.rows) s.stands;
      attached = λ j x e. no_part im.parts j x parts e;
      begins = begins set whole other loops image z im starts keeps printed;
    }
