-- What the walks of a link share: a link owns what a box of the same pointer, handle and value owns.
--     L, as_box                 the link as a row; the box of the same parts
--     Words, words, shows_at    the link's fields as a row and a value; what a `&` to them shows of the pointer
--     link_out, link_in         a link by value is [the value in memory; the right to free its block; the handle]
--     link_opens                the same behind a `&mut`: [the value; the right with the handle; the link's cell; the open borrow, in three entries]
--     Rest, back                all of a link behind a `&mut` but its value; with another value it is that link again
use mathlib.Core.Path.{◌≡◌, refl}
use mathlib.Core.List.{List, [], ◌∷◌}
use Prim.Native.Nat.{ℕ, ◌+◌}
use seplogic.Ra.Ura.{Ura}
use mir.Val.{Val}
use mir.Raw.{raw as bare}
use base.Fraction.{full_share}
use base.Fml.{Fml, Lft, GName, Share, fsep, flft, fobs, fauth, fbor, fobor}
use base.Logic.{ent, sep, id⊢}
use types.Logic.{Logic, sem}
use types.SemTy.{Body as Borrowed}
use types.Kit.{Goal, Soaks, Step, step, Seq, Item, ‵, ◌$◌, ◌∵◌, !, qed, move, keep, use1, rewrite, fsplit, fjoin, fpack, done}
use denote.RattleType.{RattleType, RowLaws}
use denote.Memory.{mem, cell_at, part_at, part_of, hidden_shr}
use denote.Opens.{shr_dup, unhide, hide}
use denote.RawPtr.{RawPtr, block_ptr, ptr_row_laws}
use denote.Steps.{opens}
use denote.Struct.Owning.{shape}
use denote.Struct.Struct.{Struct, Struct-row_laws}
use Rattle.std.proofs.alloc.Calls.{token, Fits}
use Rattle.std.proofs.BoxSteps.Form.{Bx, D, τ, R, P, B, word, handle}
use Rattle.std.proofs.BoxSteps.Steps.{box_out, box_in}
use Rattle.code_region.specs.Link.{with_value}
use Rattle.code_region.specs.contracts.link.Link as link

module _ (E : Bx) where
  abbrev pub L : RattleType
  L = link.the_row (R E) (P E) E.al.g

  abbrev pub as_box : L.Denot → D E
  as_box l = record { ptr = l.at; alloc = l.alloc; value = l.value }

  abbrev pub Words : RattleType
  Words = Struct (shape (link.the_type (R E) (P E) E.al.g))

  abbrev pub words : L.Denot → Words.Denot
  words l = (l.at, (l.alloc, tt))

  words_laws : RowLaws Words
  words_laws = Struct-row_laws (shape (link.the_type (R E) (P E) E.al.g)) (ptr_row_laws, (E.al.laws.shr_laws, tt))

  module _ {M : Type 1} {𝓤 : Ura M} (𝓛 : Logic 𝓤) (κ : Lft) (b o : ℕ) (l : L.Denot) where
    pub shows_at : ent 𝓤 (sem 𝓛 (hidden_shr Words κ (words l) b o)) (sep 𝓤 (sem 𝓛 (hidden_shr RawPtr κ l.at b (o + 0))) (sem 𝓛 (hidden_shr Words κ (words l) b o)))
    shows_at = qed 𝓛 (‵ (hidden_shr Words κ (words l) b o) ∷ []) ∵ shr_dup ! Words words_laws (words l) b o κ $ unhide ! $ fsplit ! $ fsplit ! $ hide ! $ keep ! (0 ∷ 3 ∷ []) $ done !

module _ (E : Bx) {M : Type 1} {𝓤 : Ura M} {𝓛 : Logic 𝓤} {K : Type 0} {Γ : List (Item 𝓤)} {G : Goal 𝓤 𝓛.H} where
  pub link_out : K → (l : (L E).Denot) (vs : List Val)
      → ((b o : ℕ) (hv : Val) → l.at ≡ block_ptr b o → vs ≡ word E hv b o ∷ [] → Fits E.al hv
      → Seq K 𝓛 (‵ (part_at (R E) full_share l.value b o) ∷ ‵ (token E.al l.alloc (bare (τ E)) (block_ptr b o)) ∷ ‵ (handle E l.alloc hv) ∷ Γ) G)
      → Seq K 𝓛 (‵ ((L E).own_val l vs) ∷ Γ) G
  link_out t l vs k = use1 𝓛 (‵ ((B E).own_val (as_box E l) vs)) (id⊢ 𝓤 _) $ box_out E t (as_box E l) vs k

  pub link_in : K → {hv : Val} (l : (L E).Denot) (b o : ℕ) (x : E.row.Denot) → l.at ≡ block_ptr b o → l.value ≡ x
      → Step K 𝓛 (‵ ((L E).own_val l (word E hv b o ∷ [])) ∷ Γ) G (‵ (part_at (R E) full_share x b o) ∷ ‵ (token E.al l.alloc (bare (τ E)) (block_ptr b o)) ∷ ‵ (handle E l.alloc hv) ∷ Γ) G
  link_in t {hv} l b o x e f = step (λ s.
      box_in E t (as_box E l) b o x e f $ use1 𝓛 (‵ ((L E).own_val l (word E hv b o ∷ []))) (id⊢ 𝓤 _) $ s)

module _ (E : Bx) {M : Type 1} {𝓤 : Ura M} {𝓛 : Logic 𝓤} {K : Type 0} {Γ : List (Item 𝓤)} {G : Goal 𝓤 𝓛.H} where
  pub link_opens : K → Soaks G → {κ : Lft} {q : Share} {γ : GName} (l : (L E).Denot) (rb ro : ℕ)
      → ((b o : ℕ) (hv : Val) → l.at ≡ block_ptr b o → Seq K 𝓛 (‵ (part_at (R E) full_share l.value b o) ∷ ‵ (fsep (token E.al l.alloc (bare (τ E)) (block_ptr b o)) (handle E l.alloc hv))
      ∷ ‵ (cell_at full_share (L E).mir (word E hv b o ∷ []) rb ro) ∷ ‵ (fobor κ q (Borrowed (mem (L E)) rb ro γ)) ∷ ‵ (fobs γ ((L E).coded.code l)) ∷ ‵ (fauth γ ((L E).coded.code l)) ∷ Γ) G)
      → Seq K 𝓛 (‵ (fobs γ ((L E).coded.code l)) ∷ ‵ (fbor κ (Borrowed (mem (L E)) rb ro γ)) ∷ ‵ (flft κ q) ∷ Γ) G
  link_opens t z l rb ro k =
      opens t z (L E) {h = l} rb ro (λ vs. move t (1 ∷ []) $ link_out E t l vs (λ b o hv e ws fits. move t (1 ∷ 2 ∷ []) $ fjoin t $ move t (1 ∷ []) $
      rewrite t 2 (λ (us : List Val). ‵ (cell_at full_share (L E).mir us rb ro)) ws refl $ k b o hv e))

module _ (E : Bx) {M : Type 1} {𝓤 : Ura M} (𝓛 : Logic 𝓤) (l : (L E).Denot) (rb ro b o : ℕ) (hv : Val) where
  abbrev pub Rest : Fml
  Rest = fsep (fsep (token E.al l.alloc (bare (τ E)) (block_ptr b o)) (handle E l.alloc hv)) (cell_at full_share (L E).mir (word E hv b o ∷ []) rb ro)

  pub back : l.at ≡ block_ptr b o → (w : E.row.Denot) → ent 𝓤 (sep 𝓤 (sem 𝓛 ((mem (R E)).own_at w b o)) (sem 𝓛 Rest)) (sem 𝓛 ((mem (L E)).own_at (with_value l w) rb ro))
  unfolding part_of
  back e w =
      qed 𝓛 (‵ (part_at (R E) full_share w b o) ∷ ‵ Rest ∷ []) ∵ move ! (1 ∷ []) $ fsplit ! $ fsplit ! $ move ! (3 ∷ []) $
      link_in E ! (with_value l w) b o w e refl $ move ! (1 ∷ 0 ∷ []) $ fjoin ! $
      fpack ! (List Val) (λ us. fsep (cell_at full_share (L E).mir us rb ro) ((L E).own_val (with_value l w) us)) (word E hv b o ∷ []) $ done !
