-- The constants of a set that is read are words.
use Rattle.std.proofs.Common.{◌≡◌, ℕ, ◌+◌, List, [], ◌∷◌, Result, Ok, Err, IfOk, sym, subst, inl, inr}
use Rattle.std.specs.List.{All}
use Rattle.std.proofs.lemmas.List.Elements.{All-nil, All-cons}
use Rattle.trace_ops.specs.declared.trace.Arg.{Arg}
use Rattle.trace_ops.specs.declared.trace.Arg.TheVariants as arg
use Rattle.trace_ops.specs.declared.trace.BoxId.{BoxId}
use Rattle.trace_ops.specs.declared.trace.Frame.{Frame}
use Rattle.trace_ops.specs.declared.trace.Op.{Op}
use Rattle.trace_ops.specs.declared.trace.Trace.{Trace}
use Rattle.trace_ops.specs.declared.trace.TraceSet.{TraceSet}
use Rattle.trace_ops.specs.declared.table.PrebuiltRow.{PrebuiltRow}
use Rattle.trace_ops.specs.declared.table.Table.{Table}
use Rattle.trace_ops.specs.Parts.{with_boxes}
use Rattle.trace_ops.specs.Constants.{ArgHasWord, InitialHasWord, HasWords}
use Rattle.descr_table.specs.Initials.{TablesHaveWords}
use Rattle.trace_text.specs.declared.fault.TextFault.{TextFault}
use Rattle.trace_text.specs.Boxes.{noted}
use Rattle.trace_text.specs.Faults.{Gives}
use Rattle.trace_text.specs.Sections.{set_at}
use Rattle.trace_text.proofs.ReadSets.{Each, ReadsArg, ReadsSlot, ReadsFrame, ReadsOp, ReadsOps, ReadsTrace}
use Rattle.trace_text.proofs.ReadDrafts.{traces_read}
use Rattle.trace_text.proofs.Below.{TextLaws}
use Rattle.trace_text.proofs.TableOf.{table_of_text}

all_each : {X : Type 0} (P Q : X → Type 0) → ((x : X) → Q x → P x) → (xs : List X) → Each Q xs → All P xs
all_each P Q f [] h = All-nil P
all_each P Q f (x ∷ xs) h = All-cons P x xs (f x h.0) (all_each P Q f xs h.1)

word_arg : (t : Table) (a : Arg) → ReadsArg t a → ArgHasWord a
word_arg t (arg.Of b) h = tt
word_arg t (arg.Const z) h = record { sfits = h }
word_arg t arg.Null h = tt
word_arg t (arg.Class k) h = tt
word_arg t (arg.Func k) h = tt
word_arg t (arg.Ptr k) h = tt

word_slot : (t : Table) (a : Arg) → ReadsSlot t a → ArgHasWord a
word_slot t (arg.Of b) h = tt
word_slot t (arg.Const z) h = record { sfits = h }
word_slot t arg.Null h = tt
word_slot t (arg.Class k) h = tt
word_slot t (arg.Func k) h = tt
word_slot t (arg.Ptr k) h = tt

abbrev ArgsHaveWords : Op → Type 0
ArgsHaveWords op = All ArgHasWord op.args

abbrev FrameHasWords : Frame → Type 0
FrameHasWords f = All ArgHasWord f.slots

abbrev SlotsHaveWords : Op → Type 0
SlotsHaveWords op = All FrameHasWords op.snapshot

op_args : (t : Table) (seen : List BoxId) (others : ℕ) (op : Op) → ReadsOp t seen others op → ArgsHaveWords op
op_args t seen others op h = all_each ArgHasWord (ReadsArg t) (word_arg t) op.args h.args

op_slots : (t : Table) (seen : List BoxId) (others : ℕ) (op : Op) → ReadsOp t seen others op → SlotsHaveWords op
op_slots t seen others op h = all_each FrameHasWords (ReadsFrame t seen) (λ f g. all_each ArgHasWord (ReadsSlot t) (word_slot t) f.slots g.slots) op.snapshot h.frames

-- what holds of each operation that is read
all_ops : (P : Op → Type 0) (t : Table) → ((seen : List BoxId) (others : ℕ) (op : Op) → ReadsOp t seen others op → P op) → (seen : List BoxId) (others : ℕ) (ops : List Op) → ReadsOps t seen others ops → All P ops
all_ops P t f seen others [] h = All-nil P
all_ops P t f seen others (op ∷ ops) h = All-cons P op ops (f seen others op h.0) (all_ops P t f (noted seen op.result) (others + 1) ops h.1)

all_traces : (P : Op → Type 0) (t : Table) → ((seen : List BoxId) (others : ℕ) (op : Op) → ReadsOp t seen others op → P op) → (ts : List Trace) → Each (ReadsTrace t) ts → All (λ (tr : Trace). All P tr.ops) ts
all_traces P t f ts h = all_each (λ (tr : Trace). All P tr.ops) (ReadsTrace t) (λ tr g. all_ops P t f (with_boxes [] tr.inputs) 0 tr.ops g.ops) ts h

abbrev TableHasWords : Table → Type 0
TableHasWords t = All (λ (row : PrebuiltRow). All InitialHasWord row.parts) t.prebuilts

pub words_read : TextLaws → TablesHaveWords → (text : List ℕ) (x : TraceSet × ℕ) → set_at text ≡ Ok x → HasWords x.0
words_read laws law text x e =
    let all = traces_read laws text x e in
    record {
      args = all_traces ArgsHaveWords x.0.table (op_args x.0.table) x.0.traces all;
      slots = all_traces SlotsHaveWords x.0.table (op_slots x.0.table) x.0.traces all;
      initials = elim (table_of_text text x e) [
        | inl is ↦ subst TableHasWords (sym is) (All-nil (λ (row : PrebuiltRow). All InitialHasWord row.parts))
        | inr h ↦ law h.0 h.1 x.0.table h.2
      ];
    }

pub result_words : TextLaws → TablesHaveWords → (r : Result (TraceSet × ℕ) TextFault) (text : List ℕ) → Gives r (set_at text) → IfOk r (λ x. HasWords x.0)
result_words laws law (Ok x) text h = words_read laws law text x h
result_words laws law (Err e) text h = tt
