-- What a cache knows of spots, which stores are still to be done, and what each call makes of it.
use Rattle.std.specs.Prelude.{ℕ, Bool, false, not, ◌&&◌, ◌==◌, List, [], ◌∷◌, ◌++◌, Option, filter}
use Rattle.std.specs.List.{list_any}
use Rattle.std.specs.Map.{lookup}
use Rattle.indexmap.specs.IndexMap.{insert_entry}
use Rattle.trace_ops.specs.declared.trace.Arg.{Arg}
use Rattle.trace_ops.specs.declared.piece.Val.{Val}
use Rattle.trace_ops.specs.declared.piece.Spot.{Spot}
use Rattle.trace_ops.specs.declared.piece.Spot.TheVariants.{Field, Item}
use Rattle.trace_ops.specs.declared.piece.Pending.{Pending}
use Rattle.trace_ops.specs.contracts.trace.ArgPartialEq.TheImpl as arg
use Rattle.trace_ops.specs.contracts.piece.SpotPartialEq.TheImpl as spot
use Rattle.heap_cache.specs.declared.key.Key.{Key}

pub record Content : Type 0 where
  pub known : List (Key × Val)
  pub pending : List Pending

-- nothing is known, and nothing is pending
abbrev pub empty : Content
empty = record { known = []; pending = [] }

abbrev pub same_base : Arg → Arg → Bool
same_base a b = arg.ghosts.eq a b

abbrev pub same_spot : Spot → Spot → Bool
same_spot p q = spot.ghosts.eq p q

abbrev pub same_key : Key → Key → Bool
same_key k q = same_base k.base q.base && same_spot k.spot q.spot

abbrev pub key : Arg → Spot → Key
key base spot = record { base = base; spot = spot }

abbrev pub late : Arg → Spot → Val → Pending
late base spot value = record { base = base; spot = spot; value = value }

-- what the spot of the base is known to hold
abbrev pub value_at : List (Key × Val) → Arg → Spot → Option Val
value_at known base spot = lookup (same_key (key base spot)) known

-- the spot, of another base
abbrev pub is_elsewhere : Arg → Spot → Key → Bool
is_elsewhere base spot k = same_spot k.spot spot && not (same_base k.base base)

abbrev pub is_field : List ℕ → Spot → Bool
is_field fields (Field f) = list_any (λ g. g == f) fields
is_field fields (Item a i) = false

abbrev pub is_item : ℕ → Spot → Bool
is_item array (Field f) = false
is_item array (Item a i) = a == array

-- Stores

abbrev pub is_at : Spot → Pending → Bool
is_at spot p = same_spot p.spot spot

abbrev pub is_off : Spot → Pending → Bool
is_off spot p = not (same_spot p.spot spot)

-- at the spot, through another base
abbrev pub is_through : Arg → Spot → Pending → Bool
is_through base spot p = is_elsewhere base spot (key p.base p.spot)

abbrev pub is_among : List Spot → Pending → Bool
is_among spots p = list_any (λ s. same_spot s p.spot) spots

abbrev pub is_off_all : List Spot → Pending → Bool
is_off_all spots p = not (is_among spots p)

abbrev pub is_item_store : ℕ → Pending → Bool
is_item_store array p = is_item array p.spot

abbrev pub is_off_items : ℕ → Pending → Bool
is_off_items array p = not (is_item array p.spot)

-- What each call makes of the content

abbrev pub noted : Arg → Spot → Val → Content → Content
noted base spot value c = record { known = insert_entry same_key c.known (key base spot) value; pending = c.pending }

abbrev pub wrote : Arg → Spot → Val → Content → Content
wrote base spot value c = record {
  known = filter (λ e. not (is_elsewhere base spot e.0)) (insert_entry same_key c.known (key base spot) value);
  pending = filter (is_off spot) c.pending ++ late base spot value ∷ [];
}

abbrev pub flushed : List Spot → Content → Content
flushed spots c = record { known = c.known; pending = filter (is_off_all spots) c.pending }

abbrev pub flushed_all : Content → Content
flushed_all c = record { known = c.known; pending = [] }

abbrev pub flushed_items : ℕ → Content → Content
flushed_items array c = record { known = c.known; pending = filter (is_off_items array) c.pending }

abbrev pub forgot : List ℕ → Content → Content
forgot fields c = record { known = filter (λ e. not (is_field fields e.0.spot)) c.known; pending = c.pending }

abbrev pub forgot_items : ℕ → Content → Content
forgot_items array c = record { known = filter (λ e. not (is_item array e.0.spot)) c.known; pending = c.pending }
