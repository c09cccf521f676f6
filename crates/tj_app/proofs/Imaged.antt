-- The text of pieces and of their image, and what runs on it.
use Rattle.std.proofs.Common.{◌≡◌, ℕ, false, List, [], ◌∷◌, map, refl, sym, ap, subst, ◌∙◌}
use Rattle.std.specs.List.{AllByRecursion, list_any}
use Rattle.std.proofs.lemmas.Bool.{true≢false}
use Rattle.lists.proofs.Eaches.{each_weaker}
use Rattle.trace_ops.specs.declared.table.Table.{Table}
use Rattle.trace_ops.specs.declared.trace.TraceSet.{TraceSet}
use Rattle.trace_ops.specs.declared.piece.PieceId.{PieceId}
use Rattle.trace_ops.specs.declared.piece.Piece.{Piece}
use Rattle.trace_ops.specs.Constants.{HasWords}
use Rattle.trace_ops.specs.Sound.{IsSound}
use Rattle.trace_ops.specs.WellFormed.{IsWellFormed}
use Rattle.session_text.specs.declared.session.Line.{Line}
use Rattle.session_text.specs.declared.session.Line.TheVariants as line
use Rattle.session_text.specs.declared.session.SessionText.{SessionText}
use Rattle.opt_meaning.specs.Meeting.{Made, pieces_of}
use Rattle.opt_meaning.specs.Pieces.{all_pieces}
use Rattle.opt_promise.specs.Promise.{AreMade, MadePiecesPromise}
use Rattle.opt_set.specs.Optimised.{Optimised, IsOptimised, label_in, OptimisedAreMade, OptimisedAreSound}
use Rattle.trace_text.specs.PieceWriting.{opt_text}
use Rattle.target_base.specs.declared.place.Place.TheVariants.{Word}
use Rattle.asm_select.specs.Chosen.{Setting}
use Rattle.image_runs.specs.Printed.{Printed}
use Rattle.image_built.specs.Built.{settings_from}
use Rattle.image_built.specs.Laws.{IsPrinted}
use Rattle.image_shows.specs.Laws.{IsSoundPiece, CompiledImagesShow}
use Rattle.tj_app.specs.declared.words.Command.{Command}
use Rattle.tj_app.specs.Unbuilt.{attaches}
use Rattle.tj_app.specs.Telling.{IsBuilt}
use Rattle.tj_app.specs.Opting.{Grants}
use Rattle.tj_app.specs.Imaging.{exit_told, exits_of, printed_of, AllKeepToTheirTraces, AreTextsOf, IsImageText}
use Rattle.tj_app.proofs.OnlyBuilt.{nothing_attached}
use Rattle.tj_app.proofs.Opted.{opted}
use Rattle.tj_app.proofs.Printed.{all_told, printed, entered_in_order, keeps_all}
use Rattle.tj_app.proofs.Ready.{SetsHaveWords}

-- ---- lines that attach nothing

pub grants_nothing : (set : TraceSet) (ls : List Line) → list_any attaches ls ≡ false → Grants set [] ls []
grants_nothing set [] h = refl
grants_nothing set (line.Start a t vs answers ∷ ls) h = ([], refl, grants_nothing set ls h)
grants_nothing set (line.Step a n ∷ ls) h = ([], refl, grants_nothing set ls h)
grants_nothing set (line.Run a n ∷ ls) h = ([], refl, grants_nothing set ls h)
grants_nothing set (line.Attach b ∷ ls) h = absurd (true≢false h)

-- ---- what its activations show

abbrev pub ImagesShow : Type 0
ImagesShow = (set : TraceSet) (whole ps : List Piece) (settings : PieceId → Setting) (im : Printed) (arena_bytes : ℕ) → CompiledImagesShow set whole ps settings im arena_bytes

-- a setting of no piece
any_setting : Table → Setting
any_setting t = record { table = t; at = λ (b : ℕ). Word 16; to = []; moves = []; call_moves = λ (k : ℕ). [] }

sound_pieces : OptimisedAreSound → (set : TraceSet) (o : Optimised) → IsOptimised set o → AllByRecursion (IsSoundPiece set) (all_pieces o.traces)
sound_pieces are_sound set o h =
    let labels = label_in (all_pieces o.traces) in
    each_weaker (IsSound set labels) (IsSoundPiece set) (λ p sound. (labels, sound)) (all_pieces o.traces) (are_sound set o h)

pub all_keep : ImagesShow → OptimisedAreSound → (count : ℕ) (text : List ℕ) (set : TraceSet) (h : AreTextsOf count set text) → IsWellFormed set → HasWords set
    → (ms : List Made) → pieces_of ms ≡ all_pieces h.pieces.traces → AreMade set h.pieces.attached ms → IsPrinted set (all_pieces h.pieces.traces) h.image (printed_of set h.image)
    → AllKeepToTheirTraces set (all_pieces h.pieces.traces) (printed_of set h.image)
all_keep show are_sound count text set h well words ms pieces made as_printed arena_bytes s least most run =
    let ps = all_pieces h.pieces.traces in
    let other : PieceId → Setting = λ q. any_setting set.table in
    show set ps ps (settings_from 0 h.made.placed other) (printed_of set h.image) arena_bytes
    other h.pieces.traces h.image (record { registers = count; can = h.can; made = h.made }) ms s
    refl refl pieces well words least most (subst (λ bs. AreMade set bs ms) h.unattached made)
    (keeps_all ps) (sound_pieces are_sound set h.pieces h.optimised) h.words as_printed refl run

-- ---- the text

abbrev pub imaged : SetsHaveWords → MadePiecesPromise → OptimisedAreMade → OptimisedAreSound → ImagesShow → (command : Command) (count : ℕ) (input text : List ℕ) (set : TraceSet) (session : SessionText) → IsBuilt command input set session → AreTextsOf count set text → IsImageText count input text
imaged have promise are_made are_sound show command count input text set session built h =
    let told = built.0 in
    let words = have input (set, told.stands.0) told.stands.1 in
    let made = are_made set h.pieces told.checked.well_formed words h.optimised in
    let none = subst (λ bs. Grants set [] session.lines bs) (sym h.unattached) (grants_nothing set session.lines (nothing_attached command session built.1)) in
    let as_printed = subst (λ ps. IsPrinted set ps h.image (printed_of set h.image)) made.1 (printed set h.pieces.attached made.0 h.image made.2) in
    record {
      front = opt_text set h.pieces.traces;
      opt = opted have promise are_made are_sound input (opt_text set h.pieces.traces) set session told (record { pieces = h.pieces; optimised = h.optimised; granted = none; written = refl });
      unattached = h.unattached;
      image = printed_of set h.image;
      written = h.written;
      compiled = record { image = h.image; can = h.can; made = h.made; registers = h.registers; stands = h.stands; printed = as_printed; alone = refl };
      entered = entered_in_order set h.image;
      exits = ap (map exit_told) h.made.exits ∙ all_told _ 0 h.made.placed h.made.end h.made.last h.made.laid ∙ ap (exits_of 0) h.made.pieces;
      shows = all_keep show are_sound count text set h told.checked.well_formed words made.0 made.1 made.2 as_printed;
    }
