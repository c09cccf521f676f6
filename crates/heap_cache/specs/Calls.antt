-- The calls of a cache, one after another, and what is promised of them.
use Rattle.std.specs.Prelude.{◌≡◌, ◌≢◌, ◌↔◌, ℕ, Bool, true, false, ◌&&◌, ◌==◌, if◌then◌else◌, ◌⊎◌, List, [], ◌∷◌, ◌++◌, Some, filter}
use Rattle.std.specs.List.{list_any}
use Rattle.trace_ops.specs.declared.trace.Arg.{Arg}
use Rattle.trace_ops.specs.declared.piece.Val.{Val}
use Rattle.trace_ops.specs.declared.piece.Spot.{Spot}
use Rattle.trace_ops.specs.declared.piece.Pending.{Pending}
use Rattle.heap_cache.specs.Content.{Content, empty, same_base, same_spot, late, value_at, is_at, is_through, is_among, is_field, is_item, is_item_store, noted, wrote, flushed, flushed_all, flushed_items, forgot, forgot_items}

-- what each spot of each object holds
abbrev pub Store : Type 0
Store = ℕ → Spot → Val

-- a call of the cache, or a change of the store that others make
pub data Call : Type 0 where
  Notes : Arg → Spot → Val → Call
  Writes : Arg → Spot → Val → Call
  Flushes : List Spot → Call
  FlushesAll : Call
  FlushesItems : ℕ → Call
  Forgets : List ℕ → Call
  ForgetsItems : ℕ → Call
  Changes : (Store → Store) → Call

abbrev pub after_call : Call → Content → Content
after_call (Notes b s v) c = noted b s v c
after_call (Writes b s v) c = wrote b s v c
after_call (Flushes ss) c = flushed ss c
after_call FlushesAll c = flushed_all c
after_call (FlushesItems a) c = flushed_items a c
after_call (Forgets fs) c = forgot fs c
after_call (ForgetsItems a) c = forgot_items a c
after_call (Changes f) c = c

-- the stores that a call gives
abbrev pub out_of : Call → Content → List Pending
out_of (Notes b s v) c = []
out_of (Writes b s v) c = filter (is_through b s) c.pending
out_of (Flushes ss) c = filter (is_among ss) c.pending
out_of FlushesAll c = c.pending
out_of (FlushesItems a) c = filter (is_item_store a) c.pending
out_of (Forgets fs) c = []
out_of (ForgetsItems a) c = []
out_of (Changes f) c = []

-- the content after calls, of which the latest stands first
abbrev pub after : List Call → Content
after [] = empty
after (x ∷ earlier) = after_call x (after earlier)

-- What a read gives

abbrev pub Gives : Call → Arg → Spot → Val → Type 0
Gives (Notes b s v) base spot value = (b ≡ base) × (s ≡ spot) × (v ≡ value)
Gives (Writes b s v) base spot value = (b ≡ base) × (s ≡ spot) × (v ≡ value)
Gives (Flushes ss) base spot value = ⊥
Gives FlushesAll base spot value = ⊥
Gives (FlushesItems a) base spot value = ⊥
Gives (Forgets fs) base spot value = ⊥
Gives (ForgetsItems a) base spot value = ⊥
Gives (Changes f) base spot value = ⊥

-- the call gives the spot of the base no value, is no write of the spot through another base, and doesn't forget it
abbrev pub Keeps : Call → Arg → Spot → Type 0
Keeps (Notes b s v) base spot = (b ≡ base) × (s ≡ spot) → ⊥
Keeps (Writes b s v) base spot = s ≢ spot
Keeps (Flushes ss) base spot = Unit {0}
Keeps FlushesAll base spot = Unit {0}
Keeps (FlushesItems a) base spot = Unit {0}
Keeps (Forgets fs) base spot = is_field fs spot ≡ false
Keeps (ForgetsItems a) base spot = is_item a spot ≡ false
Keeps (Changes f) base spot = Unit {0}

-- the value that a call gave the spot of the base last still stands
abbrev pub Stands : List Call → Arg → Spot → Val → Type 0
Stands [] base spot value = ⊥
Stands (x ∷ earlier) base spot value = Gives x base spot value ⊎ (Keeps x base spot × Stands earlier base spot value)

abbrev pub ReadsWhatStands : Type 0
ReadsWhatStands = (calls : List Call) (base : Arg) (spot : Spot) (value : Val) → (value_at (after calls).known base spot ≡ Some value) ↔ Stands calls base spot value

-- What becomes of late stores

pub data Fate : Type 0 where
  ComesOut : Fate
  IsReplaced : Fate
  Stays : Fate

-- what a call does to a pending store
abbrev pub fate : Call → Pending → Fate
fate (Notes b s v) p = Stays
fate (Writes b s v) p = if same_spot p.spot s then (if same_base p.base b then IsReplaced else ComesOut) else Stays
fate (Flushes ss) p = if is_among ss p then ComesOut else Stays
fate FlushesAll p = ComesOut
fate (FlushesItems a) p = if is_item_store a p then ComesOut else Stays
fate (Forgets fs) p = Stays
fate (ForgetsItems a) p = Stays
fate (Changes f) p = Stays

abbrev pub comes_out : Fate → Bool
comes_out ComesOut = true
comes_out IsReplaced = false
comes_out Stays = false

abbrev pub stays : Fate → Bool
stays ComesOut = false
stays IsReplaced = false
stays Stays = true

abbrev pub new_of : Call → List Pending
new_of (Writes b s v) = late b s v ∷ []
new_of (Notes b s v) = []
new_of (Flushes ss) = []
new_of FlushesAll = []
new_of (FlushesItems a) = []
new_of (Forgets fs) = []
new_of (ForgetsItems a) = []
new_of (Changes f) = []

-- no two of the stores are at one spot
abbrev pub IsApart : List Pending → Type 0
IsApart [] = Unit {0}
IsApart (p ∷ ps) = (list_any (is_at p.spot) ps ≡ false) × IsApart ps

-- each store comes out, stays, or is replaced by a store to the same base and spot; those that come out and those that stay keep their order
pub record HasOneFate (x : Call) (c : Content) : Type 0 where
  pub out : out_of x c ≡ filter (λ p. comes_out (fate x p)) c.pending
  pub rest : (after_call x c).pending ≡ filter (λ p. stays (fate x p)) c.pending ++ new_of x
  pub apart : IsApart c.pending → IsApart (after_call x c).pending

abbrev pub StoresHaveOneFate : Type 0
StoresHaveOneFate = (x : Call) (c : Content) → HasOneFate x c

-- Late stores and stores at once. `object` says which object each base is; two bases may be one object

abbrev pub put : (Arg → ℕ) → Pending → Store → Store
put object p store n spot = if n == object p.base && same_spot p.spot spot then p.value else store n spot

abbrev pub put_all : (Arg → ℕ) → List Pending → Store → Store
put_all object [] store = store
put_all object (p ∷ ps) store = put_all object ps (put object p store)

-- each store is done when it is written
abbrev pub at_once : (Arg → ℕ) → List Call → Store → Store
at_once object [] store = store
at_once object (Writes b s v ∷ earlier) store = put object (late b s v) (at_once object earlier store)
at_once object (Notes b s v ∷ earlier) store = at_once object earlier store
at_once object (Flushes ss ∷ earlier) store = at_once object earlier store
at_once object (FlushesAll ∷ earlier) store = at_once object earlier store
at_once object (FlushesItems a ∷ earlier) store = at_once object earlier store
at_once object (Forgets fs ∷ earlier) store = at_once object earlier store
at_once object (ForgetsItems a ∷ earlier) store = at_once object earlier store
at_once object (Changes f ∷ earlier) store = f (at_once object earlier store)

-- each store is done when it comes out
abbrev pub when_out : (Arg → ℕ) → List Call → Store → Store
when_out object [] store = store
when_out object (Changes f ∷ earlier) store = f (when_out object earlier store)
when_out object (x ∷ earlier) store = put_all object (out_of x (after earlier)) (when_out object earlier store)

-- a change that others make sees no spot at which a store is pending and changes none, and changes nothing that is known
pub record IsApartFrom (object : Arg → ℕ) (c : Content) (f : Store → Store) : Type 0 where
  pub leaves_pending : (store : Store) (n : ℕ) (spot : Spot) → list_any (is_at spot) c.pending ≡ true → f store n spot ≡ store n spot
  pub sees_none : (one other : Store) → ((n : ℕ) (spot : Spot) → list_any (is_at spot) c.pending ≡ false → one n spot ≡ other n spot)
      → (n : ℕ) (spot : Spot) → list_any (is_at spot) c.pending ≡ false → f one n spot ≡ f other n spot
  pub leaves_known : (store : Store) (base : Arg) (spot : Spot) (value : Val) → value_at c.known base spot ≡ Some value → f store (object base) spot ≡ store (object base) spot

-- each change came when it was apart from what the cache knew and held back
abbrev pub ChangesAreApart : (Arg → ℕ) → List Call → Type 0
ChangesAreApart object [] = Unit {0}
ChangesAreApart object (Changes f ∷ earlier) = IsApartFrom object (after earlier) f × ChangesAreApart object earlier
ChangesAreApart object (x ∷ earlier) = ChangesAreApart object earlier

-- what came out, and then what is pending, does what the stores did at once
abbrev pub LateIsAtOnce : Type 0
LateIsAtOnce = (object : Arg → ℕ) (calls : List Call) → ChangesAreApart object calls → (store : Store) (n : ℕ) (spot : Spot)
    → put_all object (after calls).pending (when_out object calls store) n spot ≡ at_once object calls store n spot

-- each note was true when it was made
abbrev pub NotesAreTrue : (Arg → ℕ) → List Call → Store → Type 0
NotesAreTrue object [] store = Unit {0}
NotesAreTrue object (Notes b s v ∷ earlier) store = (at_once object earlier store (object b) s ≡ v) × NotesAreTrue object earlier store
NotesAreTrue object (Writes b s v ∷ earlier) store = NotesAreTrue object earlier store
NotesAreTrue object (Flushes ss ∷ earlier) store = NotesAreTrue object earlier store
NotesAreTrue object (FlushesAll ∷ earlier) store = NotesAreTrue object earlier store
NotesAreTrue object (FlushesItems a ∷ earlier) store = NotesAreTrue object earlier store
NotesAreTrue object (Forgets fs ∷ earlier) store = NotesAreTrue object earlier store
NotesAreTrue object (ForgetsItems a ∷ earlier) store = NotesAreTrue object earlier store
NotesAreTrue object (Changes f ∷ earlier) store = NotesAreTrue object earlier store

-- what a read gives, the store done at once has there
abbrev pub ReadsAreTrue : Type 0
ReadsAreTrue = (object : Arg → ℕ) (calls : List Call) → ChangesAreApart object calls → (store : Store) → NotesAreTrue object calls store
    → (base : Arg) (spot : Spot) (value : Val) → value_at (after calls).known base spot ≡ Some value → at_once object calls store (object base) spot ≡ value
