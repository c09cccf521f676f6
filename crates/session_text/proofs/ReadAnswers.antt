-- What is read of answers is spelled so.
use Rattle.std.proofs.Common.{◌≡◌, ℕ, zero, suc, ◌<◌, ◌≤◌, false, cond, List, [], ◌∷◌, length, Option, Some, None, refl, sym, ap, subst, ◌∙◌, inl, inr, arith}
use Rattle.std.specs.Prelude.{codes}
use Rattle.std.specs.Str.{bytes_eq}
use Rattle.lists.proofs.Bools.{chosen, bytes_same}
use Rattle.std.proofs.lemmas.Option.{same_Some}
use Rattle.text_lines.specs.Words.{is_name}
use Rattle.trace_meaning.specs.declared.call.Give.{Give}
use Rattle.trace_meaning.specs.declared.call.Give.TheVariants as give
use Rattle.session_text.specs.declared.start.Place.TheVariants as place
use Rattle.session_text.specs.declared.start.Start.{Start}
use Rattle.session_text.specs.Names.{Names, look}
use Rattle.session_text.specs.Words.{object_of, give_if, given_of, target_of}
use Rattle.session_text.specs.Start.{go, expect, gives, gives_found, pushed, end_step, given_step, size_found, targeted, store_by, store_found, stored_by}
use Rattle.session_text.specs.Spelling.{Stored, SpellsGive, gives_nothing, gives_value, gives_new, gives_named_new, MoreStores, stores_end, one_store, SpellsStores, no_stores, first_store}
use Rattle.session_text.proofs.Put.{put_stores}
use Rattle.session_text.proofs.Spelled.{move, store_place, store_past}
use Rattle.session_text.proofs.ReadStart.{Ended, no_end, one_on, expected, to}

abbrev Words : Type 0
Words = List (List ℕ)

-- ---- one store

pub record Target (names : Names) (s : Start) (w : List ℕ) (ws : Words) (m : Start) : Type 0 where
  pub t : ℕ × Option ℕ
  pub targets : target_of names w ≡ Some t
  pub ended : Ended names (targeted s t) ws m

target_by : (names : Names) (s m x : Start) (w : List ℕ) (ws : Words) (o : Option (ℕ × Option ℕ)) → target_of names w ≡ o → store_by s o ≡ Some x → Ended names x ws m → Target names s w ws m
target_by names s m x w ws None e h i = absurd cc
target_by names s m x w ws (Some t) e h i = record { t = t; targets = e; ended = to names (targeted s t) x m ws (same_Some (targeted s t) x h) i }

pub record Equals (names : Names) (s : Start) (ws : Words) (m : Start) : Type 0 where
  pub rest : Words
  pub parts : ws ≡ codes "=" ∷ rest
  pub ended : Ended names (go s place.Stored) rest m

equals : (names : Names) (s m : Start) (ws : Words) → s.place ≡ place.Equals → Ended names s ws m → Equals names s ws m
equals names s m [] at e = no_end names s m place.Equals at refl e
equals names s m (w ∷ ws) at e =
    let n = one_on names s m place.Equals w ws at e in
    let x = expected names s m (codes "=") w ws place.Stored n.next n.steps n.ended in
    record { rest = ws; parts = ap (λ (k : List ℕ). k ∷ ws) x.is; ended = x.ended }

pub record Kept (names : Names) (s : Start) (ws : Words) (m : Start) : Type 0 where
  pub word : List ℕ
  pub rest : Words
  pub o : Option Give
  pub parts : ws ≡ word ∷ rest
  pub value : given_of names word ≡ Some o
  pub ended : Ended names (store_found s o) rest m

kept_by : (names : Names) (s m x : Start) (w : List ℕ) (ws : Words) (o : Option (Option Give)) → given_of names w ≡ o → stored_by s o ≡ Some x → Ended names x ws m → Kept names s (w ∷ ws) m
kept_by names s m x w ws None e h i = absurd cc
kept_by names s m x w ws (Some o) e h i = record { word = w; rest = ws; o = o; parts = refl; value = e; ended = to names (store_found s o) x m ws (same_Some (store_found s o) x h) i }

kept : (names : Names) (s m : Start) (ws : Words) → s.place ≡ place.Stored → Ended names s ws m → Kept names s ws m
kept names s m [] at e = no_end names s m place.Stored at refl e
kept names s m (w ∷ ws) at e =
    let n = one_on names s m place.Stored w ws at e in
    kept_by names s m n.next w ws (given_of names w) refl n.steps n.ended

pub record Store (names : Names) (s : Start) (ws : Words) (m : Start) : Type 0 where
  pub target : List ℕ
  pub word : List ℕ
  pub rest : Words
  pub t : ℕ × Option ℕ
  pub o : Option Give
  pub parts : ws ≡ target ∷ codes "=" ∷ word ∷ rest
  pub targets : target_of names target ≡ Some t
  pub value : given_of names word ≡ Some o
  pub ended : Ended names (store_found (targeted s t) o) rest m

store : (names : Names) (s m : Start) (ws : Words) → Ended names (go s place.Store) ws m → Store names s ws m
store names s m [] e = no_end names (go s place.Store) m place.Store refl refl e
store names s m (w ∷ ws) e =
    let n = one_on names (go s place.Store) m place.Store w ws refl e in
    let a = target_by names (go s place.Store) m n.next w ws (target_of names w) refl n.steps n.ended in
    let b = equals names (targeted (go s place.Store) a.t) m ws refl a.ended in
    let d = kept names (go (targeted (go s place.Store) a.t) place.Stored) m b.rest refl b.ended in
    record {
      target = w;
      word = d.word;
      rest = d.rest;
      t = a.t;
      o = d.o;
      parts = ap (λ (x : Words). w ∷ x) (b.parts ∙ ap (λ (x : Words). codes "=" ∷ x) d.parts);
      targets = a.targets;
      value = d.value;
      ended = to names (store_found (targeted s a.t) d.o) (store_found (go (targeted (go s place.Store) a.t) place.Stored) d.o) m d.rest (sym (store_past s place.Store place.Stored a.t d.o)) d.ended;
    }

-- ---- stores

pub record Stores (names : Names) (s : Start) (ws : Words) (m : Start) : Type 0 where
  pub ss : List Stored
  pub rest : Words
  pub spells : MoreStores names ws ss rest
  pub short : length rest ≤ length ws
  pub ended : Ended names (go (put_stores s ss) place.Braced) rest m

stored_one : (names : Names) (s m : Start) (w : List ℕ) (ws : Words) → w ≡ codes "," → (a : Store names s ws m) → Stores names (store_found (targeted s a.t) a.o) a.rest m → Stores names s (w ∷ ws) m
stored_one names s m w ws key a r =
    let more : MoreStores names (codes "," ∷ a.target ∷ codes "=" ∷ a.word ∷ a.rest) (record { arg = a.t.0; field = a.t.1; value = a.o } ∷ r.ss) r.rest = one_store a.targets a.value r.spells in
    let front : w ∷ ws ≡ codes "," ∷ a.target ∷ codes "=" ∷ a.word ∷ a.rest = ap (λ (k : List ℕ). k ∷ ws) key ∙ ap (λ (x : Words). codes "," ∷ x) a.parts in
    record {
      ss = record { arg = a.t.0; field = a.t.1; value = a.o } ∷ r.ss;
      rest = r.rest;
      spells = subst (λ (x : Words). MoreStores names x (record { arg = a.t.0; field = a.t.1; value = a.o } ∷ r.ss) r.rest) (sym front) more;
      short = omega (arith, ap length front, r.short);
      ended = r.ended;
    }

more_stores : (n : ℕ) (names : Names) (s m : Start) (ws : Words) → length ws ≤ n → s.place ≡ place.StoreEnd → Ended names s ws m → Stores names s ws m
more_stores n names s m [] le at e = no_end names s m place.StoreEnd at refl e
more_stores zero names s m (w ∷ ws) le at e = absurd (omega (arith, le))
more_stores (suc n) names s m (w ∷ ws) le at e =
    let o = one_on names s m place.StoreEnd w ws at e in
    elim (chosen (bytes_eq w (codes ",")) (Some (go s place.Store)) (expect s (codes "}") place.Braced w) (Some o.next) o.steps) [
      | inl h ↦
          let a = store names s m ws (to names (go s place.Store) o.next m ws (same_Some (go s place.Store) o.next h.1) o.ended) in
          let less : length a.rest ≤ n = omega (arith, le, ap length a.parts) in
          stored_one names s m w ws (bytes_same w (codes ",") h.0) a (more_stores n names (store_found (targeted s a.t) a.o) m a.rest less (store_place (targeted s a.t) a.o) a.ended)
      | inr h ↦
          let x = expected names s m (codes "}") w ws place.Braced o.next h.1 o.ended in
          record { ss = []; rest = ws; spells = subst (λ (k : List ℕ). MoreStores names (k ∷ ws) [] ws) (sym x.is) stores_end; short = omega arith; ended = x.ended }
    ]

-- nothing, or stores in braces, and the word that ends the answer
pub record SomeStores (names : Names) (s : Start) (us : Words) (m : Start) : Type 0 where
  pub ss : List Stored
  pub word : List ℕ
  pub rest : Words
  pub spells : SpellsStores names us ss (word ∷ rest)
  pub short : length rest < length us
  pub then_ : Start
  pub same : pushed then_ place.Ended ≡ pushed (put_stores s ss) place.Ended
  pub next : Start
  pub steps : end_step then_ word ≡ Some next
  pub ended : Ended names next rest m

braced : (names : Names) (s m : Start) (us : Words) (ss : List Stored) (vs : Words) → SpellsStores names us ss vs → length vs ≤ length us → (x : Start) → x ≡ put_stores s ss → Ended names (go x place.Braced) vs m → SomeStores names s us m
braced names s m us ss [] sp le x is e = no_end names (go x place.Braced) m place.Braced refl refl e
braced names s m us ss (w ∷ ws) sp le x is e =
    let o = one_on names (go x place.Braced) m place.Braced w ws refl e in
    record { ss = ss; word = w; rest = ws; spells = sp; short = omega (arith, le); then_ = go x place.Braced; same = ap (λ (y : Start). pushed y place.Ended) is; next = o.next; steps = o.steps; ended = o.ended }

in_braces : (names : Names) (s m : Start) (w : List ℕ) (ws : Words) → w ≡ codes "{" → (a : Store names s ws m) → Stores names (store_found (targeted s a.t) a.o) a.rest m → SomeStores names s (w ∷ ws) m
in_braces names s m w ws key a r =
    let ss : List Stored = record { arg = a.t.0; field = a.t.1; value = a.o } ∷ r.ss in
    let more : SpellsStores names (codes "{" ∷ a.target ∷ codes "=" ∷ a.word ∷ a.rest) ss r.rest = first_store a.targets a.value r.spells in
    let front : w ∷ ws ≡ codes "{" ∷ a.target ∷ codes "=" ∷ a.word ∷ a.rest = ap (λ (k : List ℕ). k ∷ ws) key ∙ ap (λ (x : Words). codes "{" ∷ x) a.parts in
    braced names s m (w ∷ ws) ss r.rest (subst (λ (x : Words). SpellsStores names x ss r.rest) (sym front) more) (omega (arith, ap length front, r.short)) (put_stores (store_found (targeted s a.t) a.o) r.ss) refl r.ended

pub some_stores : (names : Names) (s m : Start) (us : Words) → s.place ≡ place.Given → Ended names s us m → SomeStores names s us m
some_stores names s m [] at e = no_end names s m place.Given at refl e
some_stores names s m (w ∷ ws) at e =
    let o = one_on names s m place.Given w ws at e in
    elim (chosen (bytes_eq w (codes "{")) (Some (go s place.Store)) (end_step s w) (Some o.next) o.steps) [
      | inl h ↦
          let a = store names s m ws (to names (go s place.Store) o.next m ws (same_Some (go s place.Store) o.next h.1) o.ended) in
          in_braces names s m w ws (bytes_same w (codes "{") h.0) a (more_stores (length a.rest) names (store_found (targeted s a.t) a.o) m a.rest (omega arith) (store_place (targeted s a.t) a.o) a.ended)
      | inr h ↦ record { ss = []; word = w; rest = ws; spells = no_stores; short = omega arith; then_ = s; same = refl; next = o.next; steps = h.1; ended = o.ended }
    ]

-- ---- what an answer gives

pub record Given (names : Names) (s : Start) (ws : Words) (m : Start) : Type 0 where
  pub g : Option Give
  pub rest : Words
  pub spells : SpellsGive names ws g rest
  pub short : length rest < length ws
  pub ended : Ended names (gives_found s g) rest m

value_given : (names : Names) (s m x : Start) (w : List ℕ) (ws : Words) (o : Option (Option Give)) → bytes_eq w (codes "none") ≡ false → bytes_eq w (codes "new") ≡ false → given_of names w ≡ o → gives (go s place.Answer) o ≡ Some x → Ended names x ws m → Given names s (w ∷ ws) m
value_given names s m x w ws None a b e h i = absurd cc
value_given names s m x w ws (Some o) a b e h i = record { g = o; rest = ws; spells = gives_value a b e; short = omega arith; ended = to names (gives_found s o) x m ws (same_Some (gives_found s o) x h) i }

new_given : (names : Names) (s m : Start) (ws : Words) → Ended names (go s place.New) ws m → Given names s (codes "new" ∷ ws) m
new_given names s m [] e = no_end names (go s place.New) m place.New refl refl e
new_given names s m (w ∷ ws) e =
    let size : Option Give = size_found (look w names.sizes) in
    let named : Option Give = give_if (object_of (look (codes "new") names.prebuilts)) in
    let o = one_on names (go s place.New) m place.New w ws refl e in
    elim (chosen (is_name w) (Some (gives_found s size)) (given_step (gives_found s named) w) (Some o.next) o.steps) [
      | inl h ↦ record { g = size; rest = ws; spells = gives_new h.0; short = omega arith; ended = to names (gives_found s size) o.next m ws (same_Some (gives_found s size) o.next h.1) o.ended }
      | inr h ↦ record { g = named; rest = w ∷ ws; spells = gives_named_new h.0; short = omega arith; ended = record { runs = move names (gives_found s named) o.next place.Given w ws refl h.1 ∙ o.ended.runs; done_ = o.ended.done_ } }
    ]

pub given : (names : Names) (s m : Start) (ws : Words) → Ended names (go s place.Answer) ws m → Given names s ws m
given names s m [] e = no_end names (go s place.Answer) m place.Answer refl refl e
given names s m (w ∷ ws) e =
    let n = one_on names (go s place.Answer) m place.Answer w ws refl e in
    let new : Option Start = Some (go s place.New) in
    elim (chosen (bytes_eq w (codes "none")) (Some (gives_found s (Some give.Nothing))) (cond (bytes_eq w (codes "new")) new (gives (go s place.Answer) (given_of names w))) (Some n.next) n.steps) [
      | inl h ↦ record { g = Some give.Nothing; rest = ws; spells = subst (λ (k : List ℕ). SpellsGive names (k ∷ ws) (Some give.Nothing) ws) (sym (bytes_same w (codes "none") h.0)) gives_nothing; short = omega arith; ended = to names (gives_found s (Some give.Nothing)) n.next m ws (same_Some (gives_found s (Some give.Nothing)) n.next h.1) n.ended }
      | inr r ↦ elim (chosen (bytes_eq w (codes "new")) new (gives (go s place.Answer) (given_of names w)) (Some n.next) r.1) [
        | inl h ↦ subst (λ (k : List ℕ). Given names s (k ∷ ws) m) (sym (bytes_same w (codes "new") h.0)) (new_given names s m ws (to names (go s place.New) n.next m ws (same_Some (go s place.New) n.next h.1) n.ended))
        | inr h ↦ value_given names s m n.next w ws (given_of names w) r.0 h.0 refl h.1 n.ended
      ]
    ]
