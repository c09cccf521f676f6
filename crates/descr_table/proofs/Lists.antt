-- One part or item of a prebuilt object after the other.
use Rattle.std.proofs.Common.{◌≡◌, ℕ, Bool, true, false, cond, List, [], ◌∷◌, ◌++◌, Option, Some, None, refl, sym, ap, ◌∙◌}
use Rattle.std.specs.Prelude.{codes}
use Rattle.std.specs.Str.{bytes_eq}
use Rattle.lists.specs.Binds.{◌>>=◌}
use Rattle.std.proofs.lemmas.Option.{same_Some}
use Rattle.text_lines.specs.Reading.{is_end, ended}
use Rattle.descr_table.specs.declared.form.Given.{Given}
use Rattle.descr_table.specs.declared.form.Part.{Part}
use Rattle.descr_table.specs.Words.{given_of, part_of, part_at, parts_at, item_at, items_at}

abbrev Words : Type 0
Words = List (List ℕ)

pub end_is : (ws : Words) → is_end ws ≡ true → ws ≡ []
end_is [] e = refl
end_is (w ∷ ws) e = absurd cc

-- ---- fields with their values

abbrev pair : Part → Words → Part × Words
pair p ws = (p, ws)

abbrev with_rest : Part → Words → Option (Part × Words)
with_rest p ws = Some (pair p ws)

abbrev Continues : List Part → Words → Part → Words → Option Part → Type 0
Continues s ws p rest o = (o >>= λ x. with_rest x ws) ≡ with_rest p rest → (o >>= λ x. parts_at (s ++ x ∷ []) ws) ≡ parts_at (s ++ p ∷ []) rest

continues : (s : List Part) (ws : Words) (p : Part) (rest : Words) (o : Option Part) → Continues s ws p rest o
continues s ws p rest None h = absurd cc
continues s ws p rest (Some x) h =
    let both : pair x ws ≡ pair p rest = same_Some (pair x ws) (pair p rest) h in
    let same : x ≡ p = ap (λ (q : Part × Words). q.0) both in
    let others : ws ≡ rest = ap (λ (q : Part × Words). q.1) both in
    cc (ap (λ (y : Part). parts_at (s ++ y ∷ []) ws) same, ap (parts_at (s ++ p ∷ [])) others)

pub parts_more : (s : List Part) (ws rest : Words) (p : Part) → part_at ws ≡ with_rest p rest → parts_at s ws ≡ parts_at (s ++ p ∷ []) rest
unfolding part_at parts_at
parts_more s [] rest p e = absurd cc
parts_more s (n ∷ []) rest p e = absurd cc
parts_more s (n ∷ q ∷ []) rest p e = absurd cc
parts_more s (n ∷ q ∷ v ∷ ws) rest p e = continues s ws p rest (part_of n q v) e

stops : (s : List Part) (ws : Words) (o : Option Part) → (o >>= λ x. with_rest x ws) ≡ None → (o >>= λ x. parts_at (s ++ x ∷ []) ws) ≡ None
stops s ws None h = refl
stops s ws (Some x) h = absurd cc

pub parts_end : (s : List Part) (ws : Words) → part_at ws ≡ None → parts_at s ws ≡ cond (is_end ws) (Some s) None
unfolding part_at parts_at
parts_end s [] e = refl
parts_end s (n ∷ []) e = refl
parts_end s (n ∷ q ∷ []) e = refl
parts_end s (n ∷ q ∷ v ∷ ws) e = stops s ws (part_of n q v) e

pub parts_ended : (b : Bool) (s : List Part) (ws : Words) (total : Option (List Part)) → part_at ws ≡ None → b ≡ is_end ws → b ≡ true → parts_at s ws ≡ total → Some s ≡ total
parts_ended b s ws total e is ends so_far =
    let here : is_end ws ≡ true = sym is ∙ ends in
    sym (parts_end s ws e ∙ ap (λ x. cond x (Some s) None) here) ∙ so_far

pub parts_bad : (b : Bool) (s : List Part) (ws : Words) (total : Option (List Part)) → part_at ws ≡ None → b ≡ is_end ws → b ≡ false → parts_at s ws ≡ total → None ≡ total
parts_bad b s ws total e is more so_far =
    let here : is_end ws ≡ false = sym is ∙ more in
    sym (parts_end s ws e ∙ ap (λ x. cond x (Some s) None) here) ∙ so_far

-- ---- items with their marks

abbrev Marked : Type 0
Marked = Given × Bool × Words

abbrev triple : Given → Bool → Words → Marked
triple v last ws = (v, last, ws)

abbrev marked : Given → Bool → Words → Option Marked
marked v last ws = Some (triple v last ws)

abbrev all_items : Bool → Bool → List Given → Words → Given → Option (List Given)
all_items comma bracket s ws v = cond comma (items_at (s ++ v ∷ []) ws) (cond bracket (ended (s ++ v ∷ []) ws) None)

-- what follows an item
abbrev behind : List Given → Given → Bool → Words → Option (List Given)
behind s v false rest = items_at (s ++ v ∷ []) rest
behind s v true rest = ended (s ++ v ∷ []) rest

item_goes : (comma bracket last : Bool) (s : List Given) (ws rest : Words) (v : Given) (o : Option Given)
    → (o >>= λ x. cond comma (marked x false ws) (cond bracket (marked x true ws) None)) ≡ marked v last rest → (o >>= λ x. all_items comma bracket s ws x) ≡ behind s v last rest
item_goes comma bracket last s ws rest v None h = absurd cc
item_goes true bracket last s ws rest v (Some x) h =
    let all : triple x false ws ≡ triple v last rest = same_Some (triple x false ws) (triple v last rest) h in
    let same : x ≡ v = ap (λ (q : Marked). q.0) all in
    let open_ : false ≡ last = ap (λ (q : Marked). q.1) all in
    let others : ws ≡ rest = ap (λ (q : Marked). q.2) all in
    cc (ap (λ (y : Given). items_at (s ++ y ∷ []) ws) same, ap (items_at (s ++ v ∷ [])) others, ap (λ b. behind s v b rest) open_)
item_goes false true last s ws rest v (Some x) h =
    let all : triple x true ws ≡ triple v last rest = same_Some (triple x true ws) (triple v last rest) h in
    let same : x ≡ v = ap (λ (q : Marked). q.0) all in
    let closed : true ≡ last = ap (λ (q : Marked). q.1) all in
    let others : ws ≡ rest = ap (λ (q : Marked). q.2) all in
    cc (ap (λ (y : Given). ended (s ++ y ∷ []) ws) same, ap (ended (s ++ v ∷ [])) others, ap (λ b. behind s v b rest) closed)
item_goes false false last s ws rest v (Some x) h = absurd cc

item_stops : (comma bracket : Bool) (s : List Given) (ws : Words) (o : Option Given)
    → (o >>= λ x. cond comma (marked x false ws) (cond bracket (marked x true ws) None)) ≡ None → (o >>= λ x. all_items comma bracket s ws x) ≡ None
item_stops comma bracket s ws None h = refl
item_stops true bracket s ws (Some x) h = absurd cc
item_stops false true s ws (Some x) h = absurd cc
item_stops false false s ws (Some x) h = refl

pub items_go : (s : List Given) (ws rest : Words) (v : Given) (last : Bool) → item_at ws ≡ marked v last rest → items_at s ws ≡ behind s v last rest
unfolding item_at items_at
items_go s [] rest v last e = absurd cc
items_go s (x ∷ []) rest v last e = absurd cc
items_go s (x ∷ m ∷ ws) rest v last e = item_goes (bytes_eq m (codes ",")) (bytes_eq m (codes "]")) last s ws rest v (given_of x) e

pub items_none : (s : List Given) (ws : Words) → item_at ws ≡ None → items_at s ws ≡ None
unfolding item_at items_at
items_none s [] e = refl
items_none s (x ∷ []) e = refl
items_none s (x ∷ m ∷ ws) e = item_stops (bytes_eq m (codes ",")) (bytes_eq m (codes "]")) s ws (given_of x) e

pub items_more : (s : List Given) (ws rest : Words) (v : Given) (last : Bool) → item_at ws ≡ marked v last rest → last ≡ false → items_at s ws ≡ items_at (s ++ v ∷ []) rest
items_more s ws rest v last e h = items_go s ws rest v last e ∙ ap (λ b. behind s v b rest) h

ended_is : {A : Type 0} (x : A) (ws : Words) → ended x ws ≡ cond (is_end ws) (Some x) None
ended_is x [] = refl
ended_is x (w ∷ ws) = refl

pub items_last : (s : List Given) (ws rest : Words) (v : Given) (last : Bool) → item_at ws ≡ marked v last rest → last ≡ true → items_at s ws ≡ cond (is_end rest) (Some (s ++ v ∷ [])) None
items_last s ws rest v last e h = items_go s ws rest v last e ∙ ap (λ b. behind s v b rest) h ∙ ended_is (s ++ v ∷ []) rest

pub items_ended : (b : Bool) (s : List Given) (ws rest : Words) (v : Given) (last : Bool) (total : Option (List Given)) → item_at ws ≡ marked v last rest → last ≡ true → b ≡ is_end rest → b ≡ true → items_at s ws ≡ total → Some (s ++ v ∷ []) ≡ total
items_ended b s ws rest v last total e h is ends so_far =
    let here : is_end rest ≡ true = sym is ∙ ends in
    sym (items_last s ws rest v last e h ∙ ap (λ x. cond x (Some (s ++ v ∷ [])) None) here) ∙ so_far

pub items_bad : (b : Bool) (s : List Given) (ws rest : Words) (v : Given) (last : Bool) (total : Option (List Given)) → item_at ws ≡ marked v last rest → last ≡ true → b ≡ is_end rest → b ≡ false → items_at s ws ≡ total → None ≡ total
items_bad b s ws rest v last total e h is more so_far =
    let here : is_end rest ≡ false = sym is ∙ more in
    sym (items_last s ws rest v last e h ∙ ap (λ x. cond x (Some (s ++ v ∷ [])) None) here) ∙ so_far
