-- The loop over the rows of frames.
use Rattle.std.proofs.Common.{◌≡◌, ℕ, zero, suc, ◌+◌, ◌-◌, ◌<◌, ◌≤◌, Option, Some, None, List, [], ◌∷◌, ◌++◌, map, length, slice_get, slice_index_or, refl, ap, sym, ◌∙◌, subst, arith, append_assoc}
use Rattle.std.proofs.lemmas.List.{append-nil}
use Rattle.trace_meaning.specs.declared.state.RecFrame.{RecFrame}
use Rattle.resume_numbering.specs.declared.rows.FrameRow.{FrameRow}
use Rattle.resume_numbering.specs.Standing.{HasLowerParents}
use Rattle.std.specs.List.{All}
use Rattle.std.proofs.lemmas.Option.{same_Some, slice_get_within, slice_get_read}
use Rattle.lists.proofs.Alls.{all_at, all_from}
use Rattle.lists.proofs.Appends.{get_left, get_right}
use Rattle.resume_rebuild.specs.Rows.{further, found_row, chain, frames_from}

-- after so many frames, with so many lists left in the pool
pub record Framing (rows : List FrameRow) (value : FrameRow → RecFrame) (first cap : ℕ) (at : Option ℕ) (done : List RecFrame) (count pooled : ℕ) : Type 0 where
  pub left : ℕ
  pub frames : done ++ map value (chain left rows at) ≡ map value (frames_from rows first)
  pub below : (k : ℕ) → at ≡ Some k → k < left
  pub few : left ≤ length rows
  pub space : count + length (chain left rows at) ≤ cap
  pub pool : length (chain left rows at) ≤ pooled

pub framing_starts : (rows : List FrameRow) (value : FrameRow → RecFrame) (first cap : ℕ) (done : List RecFrame) (count pooled : ℕ) → first < length rows → done ≡ [] → count ≡ 0 → length (frames_from rows first) ≤ cap → length (frames_from rows first) ≤ pooled → Framing rows value first cap (Some first) done count pooled
framing_starts rows value first cap done count pooled lt none zeros space pool = record {
  left = length rows;
  frames = ap (λ l. l ++ map value (frames_from rows first)) none;
  below = λ k e. (let same : first ≡ k = same_Some first k e in omega arith);
  few = omega arith;
  space = omega arith;
  pool = pool;
}

pub chain_opens : (rows : List FrameRow) (at : Option ℕ) (k left : ℕ) (row : FrameRow) → at ≡ Some k → slice_get rows k ≡ Some row → k < left → chain left rows at ≡ row ∷ chain (left - 1) rows row.parent
chain_opens rows at k zero row e g lt = absurd (omega arith)
chain_opens rows at k (suc n) row e g lt =
    let less : suc n - 1 ≡ n = omega arith in
    ap (λ o. further (chain n rows) (found_row rows o)) e ∙ ap (further (chain n rows)) g ∙ ap (λ m. row ∷ chain m rows row.parent) (sym less)

length_opened : (rows : List FrameRow) (at : Option ℕ) (k left : ℕ) (row : FrameRow) → at ≡ Some k → slice_get rows k ≡ Some row → k < left → length (chain left rows at) ≡ length (chain (left - 1) rows row.parent) + 1
length_opened rows at k left row e g lt =
    let a : length (chain left rows at) ≡ suc (length (chain (left - 1) rows row.parent)) = ap length (chain_opens rows at k left row e g lt) in
    omega arith

pub framing_goes_on : (rows : List FrameRow) (value : FrameRow → RecFrame) (first cap : ℕ) (at : Option ℕ) (k : ℕ) (row : FrameRow) (done new : List RecFrame) (count pooled more fewer : ℕ) → HasLowerParents rows → Framing rows value first cap at done count pooled → at ≡ Some k → slice_get rows k ≡ Some row → new ≡ done ++ value row ∷ [] → more ≡ count + 1 → fewer + 1 ≡ pooled → Framing rows value first cap row.parent new more fewer
framing_goes_on rows value first cap at k row done new count pooled more fewer lower s e g pushed one less =
    let lt : k < s.left = s.below k e in
    let few : s.left ≤ length rows = s.few in
    let opened = length_opened rows at k s.left row e g lt in
    record {
      left = s.left - 1;
      frames =
          ap (λ l. l ++ map value (chain (s.left - 1) rows row.parent)) pushed
          ∙ append_assoc done (value row ∷ []) (map value (chain (s.left - 1) rows row.parent))
          ∙ ap (λ l. done ++ map value l) (sym (chain_opens rows at k s.left row e g lt))
          ∙ s.frames;
      below = λ p parent. (let a : p < k = lower k p row g parent in omega arith);
      few = omega arith;
      space = omega (arith, opened, s.space);
      pool = omega (arith, opened, s.pool);
    }

pub framing_within : (rows : List FrameRow) (value : FrameRow → RecFrame) (first cap : ℕ) (at : Option ℕ) (k : ℕ) (done : List RecFrame) (count pooled : ℕ) → Framing rows value first cap at done count pooled → at ≡ Some k → k < length rows
framing_within rows value first cap at k done count pooled s e = omega (arith, s.few, s.below k e)

-- there is a list for one more, and room
pub framing_room : (rows : List FrameRow) (value : FrameRow → RecFrame) (first cap : ℕ) (at : Option ℕ) (k : ℕ) (row : FrameRow) (done : List RecFrame) (count pooled : ℕ) → Framing rows value first cap at done count pooled → at ≡ Some k → slice_get rows k ≡ Some row → (count < cap) × (0 < pooled)
framing_room rows value first cap at k row done count pooled s e g =
    let opened = length_opened rows at k s.left row e g (s.below k e) in
    (omega (arith, opened, s.space), omega (arith, opened, s.pool))

chain_none : (rows : List FrameRow) (left : ℕ) → chain left rows None ≡ []
chain_none rows zero = refl
chain_none rows (suc n) = refl

pub framing_ends : (rows : List FrameRow) (value : FrameRow → RecFrame) (first cap : ℕ) (at : Option ℕ) (done : List RecFrame) (count pooled : ℕ) → Framing rows value first cap at done count pooled → at ≡ None → done ≡ map value (frames_from rows first)
framing_ends rows value first cap at done count pooled s e =
    sym (append-nil done) ∙ ap (λ l. done ++ map value l) (sym (ap (chain s.left rows) e ∙ chain_none rows s.left)) ∙ s.frames

abbrev pub left_at : Option ℕ → ℕ
left_at None = 0
left_at (Some k) = k + 1

pub left_less : (rows : List FrameRow) (at : Option ℕ) (k : ℕ) (row : FrameRow) → HasLowerParents rows → at ≡ Some k → slice_get rows k ≡ Some row → left_at row.parent < left_at at
left_less rows at k row low e g = subst (λ o. left_at row.parent < left_at o) (sym e) (by row.parent refl)
  where
    by : (o : Option ℕ) → row.parent ≡ o → left_at o < left_at (Some k)
    by None p = omega arith
    by (Some q) p = (let a : q < k = low k q row g p in omega arith)

-- the last of a list, and the others
pub last_of : {X : Type 0} (P : X → Type 0) (old new : List X) (x : X) → old ≡ new ++ x ∷ [] → All P old → P x
last_of P old new x e h = all_at P old (length new) x h (ap (λ l. slice_get l (length new)) e ∙ get_right new (x ∷ []) (length new) 0 (omega arith))

pub others_of : {X : Type 0} (P : X → Type 0) (old new : List X) (x : X) → old ≡ new ++ x ∷ [] → All P old → All P new
others_of P old new x e h = all_from P new (λ i y g. all_at P old i y h (ap (λ l. slice_get l i) e ∙ get_left new (x ∷ []) i (slice_get_within new i y g) ∙ g))

pub row_read : (rows : List FrameRow) (k : ℕ) (row : FrameRow) → k < length rows → row ≡ slice_index_or rows k row → slice_get rows k ≡ Some row
row_read rows k row lt is = slice_get_read rows (length rows) k row refl lt is

-- after so many rows were counted
pub record Counted (rows : List FrameRow) (first : ℕ) (at : Option ℕ) (count : ℕ) : Type 0 where
  pub left : ℕ
  pub all : count + length (chain left rows at) ≡ length (frames_from rows first)
  pub below : (k : ℕ) → at ≡ Some k → k < left
  pub few : count + left ≡ length rows

pub counting_starts : (rows : List FrameRow) (first : ℕ) → first < length rows → Counted rows first (Some first) 0
counting_starts rows first lt = record {
  left = length rows;
  all = omega arith;
  below = λ k e. (let same : first ≡ k = same_Some first k e in omega arith);
  few = omega arith;
}

pub counting_within : (rows : List FrameRow) (first : ℕ) (at : Option ℕ) (k count : ℕ) → Counted rows first at count → at ≡ Some k → (k < length rows) × (count < length rows)
counting_within rows first at k count s e = (omega (arith, s.few, s.below k e), omega (arith, s.few, s.below k e))

pub counting_goes_on : (rows : List FrameRow) (first : ℕ) (at : Option ℕ) (k count : ℕ) (row : FrameRow) → HasLowerParents rows → Counted rows first at count → at ≡ Some k → slice_get rows k ≡ Some row → Counted rows first row.parent (count + 1)
counting_goes_on rows first at k count row lower s e g =
    let lt : k < s.left = s.below k e in
    let opened = length_opened rows at k s.left row e g lt in
    record {
      left = s.left - 1;
      all = omega (arith, opened, s.all);
      below = λ p parent. (let a : p < k = lower k p row g parent in omega arith);
      few = omega (arith, s.few, lt);
    }

pub counting_ends : (rows : List FrameRow) (first : ℕ) (at : Option ℕ) (count : ℕ) → Counted rows first at count → at ≡ None → count ≡ length (frames_from rows first)
counting_ends rows first at count s e =
    let none : length (chain s.left rows at) ≡ 0 = ap length (ap (chain s.left rows) e ∙ chain_none rows s.left) in
    omega (arith, none, s.all)
