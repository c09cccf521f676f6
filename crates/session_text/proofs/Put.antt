-- A start with more inputs, stores and answers, and what it then says.
use Rattle.std.proofs.Common.{◌≡◌, ℕ, Bool, true, false, List, [], ◌∷◌, ◌++◌, map, Option, Some, None, refl, sym, ap, ◌∙◌, append_assoc}
use Rattle.std.specs.Prelude.{◌||◌, is_none}
use Rattle.std.specs.List.{list_any}
use Rattle.std.proofs.lemmas.List.{append-nil}
use Rattle.std.proofs.lemmas.Bool.{or_parts}
use Rattle.trace_meaning.specs.declared.value.Value.{Value}
use Rattle.trace_meaning.specs.declared.call.Give.{Give}
use Rattle.trace_meaning.specs.declared.call.Answer.{Answer}
use Rattle.session_text.specs.declared.start.Place.TheVariants as place
use Rattle.session_text.specs.declared.start.Start.{Start}
use Rattle.session_text.specs.Start.{input_found, give_or, gives_found, pushed, targeted, store_found}
use Rattle.session_text.specs.Spelling.{Stored, Reply, stored, reply, store_lacks, reply_lacks}

abbrev pub put_inputs : Start → List (Option Value) → Start
put_inputs s [] = s
put_inputs s (o ∷ os) = put_inputs (input_found s o) os

abbrev pub put_store : Start → Stored → Start
put_store s x = store_found (targeted s (x.arg, x.field)) x.value

abbrev pub put_stores : Start → List Stored → Start
put_stores s [] = s
put_stores s (x ∷ xs) = put_stores (put_store s x) xs

abbrev pub replied : Start → Reply → Start
replied s r = pushed (put_stores (gives_found s r.gives) r.stores) place.Ended

abbrev pub put_replies : Start → List Reply → Start
put_replies s [] = s
put_replies s (r ∷ rs) = put_replies (replied s r) rs

-- ---- booleans

or_assoc : (a b d : Bool) → ((a || b) || d) ≡ (a || (b || d))
or_assoc true b d = refl
or_assoc false b d = refl

or_false : (a : Bool) → (a || false) ≡ a
or_false true = refl
or_false false = refl

or_true : (a : Bool) → (a || true) ≡ true
or_true true = refl
or_true false = refl

map-more : {X Y : Type 0} (f : X → Y) (xs : List X) (x : X) → map f (xs ++ x ∷ []) ≡ map f xs ++ f x ∷ []
map-more f [] x = refl
map-more f (y ∷ ys) x = ap (λ zs. f y ∷ zs) (map-more f ys x)

-- ---- inputs

input-lacks : (s : Start) (o : Option Value) → (input_found s o).lacks ≡ (s.lacks || is_none o)
input-lacks s None = sym (or_true s.lacks)
input-lacks s (Some v) = sym (or_false s.lacks)

pub put_inputs-lacks : (s : Start) (os : List (Option Value)) → (put_inputs s os).lacks ≡ (s.lacks || list_any is_none os)
put_inputs-lacks s [] = sym (or_false s.lacks)
put_inputs-lacks s (o ∷ os) = put_inputs-lacks (input_found s o) os ∙ ap (λ b. b || list_any is_none os) (input-lacks s o) ∙ or_assoc s.lacks (is_none o) (list_any is_none os)

input-inputs : (s : Start) (o : Option Value) → is_none o ≡ false → map Some (input_found s o).inputs ≡ map Some s.inputs ++ o ∷ []
input-inputs s None e = absurd cc
input-inputs s (Some v) e = map-more Some s.inputs v

pub put_inputs-inputs : (s : Start) (os : List (Option Value)) → list_any is_none os ≡ false → map Some (put_inputs s os).inputs ≡ map Some s.inputs ++ os
put_inputs-inputs s [] e = sym (append-nil (map Some s.inputs))
put_inputs-inputs s (o ∷ os) e =
    let p = or_parts (is_none o) (list_any is_none os) e in
    put_inputs-inputs (input_found s o) os p.1 ∙ ap (λ (x : List (Option Value)). x ++ os) (input-inputs s o p.0) ∙ append_assoc (map Some s.inputs) (o ∷ []) os

input-answers : (s : Start) (o : Option Value) → (input_found s o).answers ≡ s.answers
input-answers s None = refl
input-answers s (Some v) = refl

pub put_inputs-answers : (s : Start) (os : List (Option Value)) → (put_inputs s os).answers ≡ s.answers
put_inputs-answers s [] = refl
put_inputs-answers s (o ∷ os) = put_inputs-answers (input_found s o) os ∙ input-answers s o

input-stores : (s : Start) (o : Option Value) → (input_found s o).stores ≡ s.stores
input-stores s None = refl
input-stores s (Some v) = refl

pub put_inputs-stores : (s : Start) (os : List (Option Value)) → (put_inputs s os).stores ≡ s.stores
put_inputs-stores s [] = refl
put_inputs-stores s (o ∷ os) = put_inputs-stores (input_found s o) os ∙ input-stores s o

-- ---- stores

store-lacks_by : (s : Start) (x : Stored) (v : Option Give) → (store_found (targeted s (x.arg, x.field)) v).lacks ≡ (s.lacks || (is_none x.field || is_none v))
store-lacks_by s x None = sym (ap (λ b. s.lacks || b) (or_true (is_none x.field)) ∙ or_true s.lacks)
store-lacks_by s x (Some v) = sym (ap (λ b. s.lacks || b) (or_false (is_none x.field)))

store-stores_by : (s : Start) (arg : ℕ) (f : Option ℕ) (v : Option Give) → (is_none f || is_none v) ≡ false → map stored (store_found (targeted s (arg, f)) v).stores ≡ map stored s.stores ++ record { arg = arg; field = f; value = v } ∷ []
store-stores_by s arg None v e = absurd cc
store-stores_by s arg (Some f) None e = absurd cc
store-stores_by s arg (Some f) (Some v) e = map-more stored s.stores (record { arg = arg; field = f; value = v })

store-kept_by : (s : Start) (x : Stored) (v : Option Give) → ((store_found (targeted s (x.arg, x.field)) v).inputs ≡ s.inputs) × ((store_found (targeted s (x.arg, x.field)) v).answers ≡ s.answers) × ((store_found (targeted s (x.arg, x.field)) v).gives ≡ s.gives)
store-kept_by s x None = (refl, refl, refl)
store-kept_by s x (Some v) = (refl, refl, refl)

store-lacks : (s : Start) (x : Stored) → (put_store s x).lacks ≡ (s.lacks || store_lacks x)
store-lacks s x = store-lacks_by s x x.value

store-stores : (s : Start) (x : Stored) → store_lacks x ≡ false → map stored (put_store s x).stores ≡ map stored s.stores ++ x ∷ []
store-stores s x e = store-stores_by s x.arg x.field x.value e

pub put_stores-lacks : (s : Start) (ss : List Stored) → (put_stores s ss).lacks ≡ (s.lacks || list_any store_lacks ss)
put_stores-lacks s [] = sym (or_false s.lacks)
put_stores-lacks s (x ∷ xs) = put_stores-lacks (put_store s x) xs ∙ ap (λ b. b || list_any store_lacks xs) (store-lacks s x) ∙ or_assoc s.lacks (store_lacks x) (list_any store_lacks xs)

pub put_stores-stores : (s : Start) (ss : List Stored) → list_any store_lacks ss ≡ false → map stored (put_stores s ss).stores ≡ map stored s.stores ++ ss
put_stores-stores s [] e = sym (append-nil (map stored s.stores))
put_stores-stores s (x ∷ xs) e =
    let p = or_parts (store_lacks x) (list_any store_lacks xs) e in
    put_stores-stores (put_store s x) xs p.1 ∙ ap (λ (y : List Stored). y ++ xs) (store-stores s x p.0) ∙ append_assoc (map stored s.stores) (x ∷ []) xs

store-kept : (s : Start) (x : Stored) → ((put_store s x).inputs ≡ s.inputs) × ((put_store s x).answers ≡ s.answers) × ((put_store s x).gives ≡ s.gives)
store-kept s x = store-kept_by s x x.value

pub put_stores-inputs : (s : Start) (ss : List Stored) → (put_stores s ss).inputs ≡ s.inputs
put_stores-inputs s [] = refl
put_stores-inputs s (x ∷ xs) = put_stores-inputs (put_store s x) xs ∙ (store-kept s x).0

pub put_stores-answers : (s : Start) (ss : List Stored) → (put_stores s ss).answers ≡ s.answers
put_stores-answers s [] = refl
put_stores-answers s (x ∷ xs) = put_stores-answers (put_store s x) xs ∙ (store-kept s x).1

pub put_stores-gives : (s : Start) (ss : List Stored) → (put_stores s ss).gives ≡ s.gives
put_stores-gives s [] = refl
put_stores-gives s (x ∷ xs) = put_stores-gives (put_store s x) xs ∙ (store-kept s x).2

-- ---- answers

replied-lacks : (s : Start) (r : Reply) → (replied s r).lacks ≡ (s.lacks || reply_lacks r)
replied-lacks s r = put_stores-lacks (gives_found s r.gives) r.stores ∙ or_assoc s.lacks (is_none r.gives) (list_any store_lacks r.stores)

reply-is : (g : Give) (ss : List Stored) (r : Reply) → Some g ≡ r.gives → ss ≡ r.stores → record { gives = Some g; stores = ss } ≡ r
reply-is g ss r a b = rw (a, b) refl

given-is : (g : Give) (o : Option Give) → is_none o ≡ false → Some (give_or g o) ≡ o
given-is g None e = absurd cc
given-is g (Some x) e = refl

replied-answers : (s : Start) (r : Reply) → s.stores ≡ [] → reply_lacks r ≡ false → map reply (replied s r).answers ≡ map reply s.answers ++ r ∷ []
replied-answers s r none e =
    let p = or_parts (is_none r.gives) (list_any store_lacks r.stores) e in
    let x : Start = put_stores (gives_found s r.gives) r.stores in
    let last : Answer = record { gives = x.gives; stores = x.stores } in
    let gives : Some x.gives ≡ r.gives = ap Some (put_stores-gives (gives_found s r.gives) r.stores) ∙ given-is s.gives r.gives p.0 in
    let stores : map stored x.stores ≡ r.stores = put_stores-stores (gives_found s r.gives) r.stores p.1 ∙ ap (λ ys. map stored ys ++ r.stores) none in
    let same : reply last ≡ r = reply-is x.gives (map stored x.stores) r gives stores in
    map-more reply x.answers last ∙ ap (λ (y : List Answer). map reply y ++ reply last ∷ []) (put_stores-answers (gives_found s r.gives) r.stores) ∙ ap (λ (y : Reply). map reply s.answers ++ y ∷ []) same

pub put_replies-lacks : (s : Start) (rs : List Reply) → (put_replies s rs).lacks ≡ (s.lacks || list_any reply_lacks rs)
put_replies-lacks s [] = sym (or_false s.lacks)
put_replies-lacks s (r ∷ rs) = put_replies-lacks (replied s r) rs ∙ ap (λ b. b || list_any reply_lacks rs) (replied-lacks s r) ∙ or_assoc s.lacks (reply_lacks r) (list_any reply_lacks rs)

pub put_replies-inputs : (s : Start) (rs : List Reply) → (put_replies s rs).inputs ≡ s.inputs
put_replies-inputs s [] = refl
put_replies-inputs s (r ∷ rs) = put_replies-inputs (replied s r) rs ∙ put_stores-inputs (gives_found s r.gives) r.stores

pub put_replies-answers : (s : Start) (rs : List Reply) → s.stores ≡ [] → list_any reply_lacks rs ≡ false → map reply (put_replies s rs).answers ≡ map reply s.answers ++ rs
put_replies-answers s [] none e = sym (append-nil (map reply s.answers))
put_replies-answers s (r ∷ rs) none e =
    let p = or_parts (reply_lacks r) (list_any reply_lacks rs) e in
    put_replies-answers (replied s r) rs refl p.1 ∙ ap (λ (y : List Reply). y ++ rs) (replied-answers s r none p.0) ∙ append_assoc (map reply s.answers) (r ∷ []) rs
