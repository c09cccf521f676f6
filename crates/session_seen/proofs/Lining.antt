-- What is written of one line, and of lines one behind the other.
use Rattle.std.proofs.Common.{◌≡◌, ◌≢◌, ◌⊎◌, inl, inr, ℕ, zero, suc, ◌+◌, ◌*◌, ◌^◌, ◌<◌, ◌≤◌, List, [], ◌∷◌, ◌++◌, Option, Some, None, length, drop, refl, ap, sym, ◌∙◌, subst, arith, append_assoc, mul-le-mul, mul-le-mul_right}
use Rattle.std.specs.Prelude.{slice_get, slice_index_or}
use Rattle.std.specs.List.{All}
use Rattle.std.proofs.lemmas.List.Elements.{All-nil, All-tail}
use Rattle.std.proofs.lemmas.List.{append-nil, drop_all}
use Rattle.std.proofs.lemmas.Option.{slice_get_within}
use Rattle.lists.proofs.Alls.{all_from, all_at}
use Rattle.lists.proofs.Appends.{drop_next}
use Rattle.lists.proofs.Options.{some_same}
use Rattle.lists.proofs.Zips.{zip_long}
use Rattle.trace_ops.specs.declared.trace.TraceSet.{TraceSet}
use Rattle.trace_meaning.specs.declared.value.Value.{Value}
use Rattle.trace_meaning.specs.declared.call.Answer.{Answer}
use Rattle.opt_meaning.specs.Pieces.{all_pieces}
use Rattle.session_text.specs.declared.session.Line.{Line}
use Rattle.session_text.specs.declared.session.Line.TheVariants as line
use Rattle.session_text.specs.Fits.{LineFits, LinesFit, IsStart as IsLineStart, with_start_of, starts_behind}
use Rattle.seen_text.specs.Lines.{started_text}
use Rattle.session_host.specs.Hosting.{host_of}
use Rattle.image_runs.specs.Printed.{Printed, code_at}
use Rattle.image_runs.specs.Session.{Host, Session, first}
use Rattle.run_session.specs.Calls.{IsStart, Shows as Has}
use Rattle.run_session.specs.Sessions.{Active, Sessioned, Tells, IsSession, host_in}
use Rattle.session_seen.specs.Lines.{name_of, IsStarted, IsLine, AreLines, IsMoved, most_of_run}
use Rattle.session_seen.specs.Keeping.{AttachesNone, HasEntries, HaveMade, IsSameWhole, PutsLine, PutsLines, PutsMoves, WritesLine, WritesLines, most_of_line}
use Rattle.session_seen.proofs.Moves.{made_before, same_whole}

-- ---- a start

last_or_before : (j n : ℕ) → j < n + 1 → (j < n) ⊎ (j ≡ n)
last_or_before zero zero h = inr refl
last_or_before zero (suc n) h = inl (omega arith)
last_or_before (suc j) zero h = absurd (omega (arith, h))
last_or_before (suc j) (suc n) h = elim (last_or_before j n (omega (arith, h))) [ inl w ↦ inl (omega (arith, w)) | inr w ↦ inr (ap suc w) ]

starts_so : (names : List (List ℕ)) (a trace number : ℕ) (inputs : List Value) (answers : List Answer) (old new : Sessioned) (before after : List ℕ)
    → a ≡ length old.activations → IsLineStart old.set trace inputs answers → IsStart trace inputs answers old new number → after ≡ before ++ started_text (name_of names a)
    → PutsLine names (line.Start a trace inputs answers) old new before after
starts_so names a trace number inputs answers old new before after numbered fits start put = record {
  whole = record { set = start.set; optimised = start.optimised; image = start.image; arena_bytes = start.arena_bytes };
  starts = start.count;
  made = made;
  writes = writes;
}
  where
    made : (most : ℕ) → HaveMade most old → HaveMade (most + most_of_line) new
    made most h = made_before new most most_of_line (all_from (λ (x : Active). x.machine.instructions ≤ most) new.activations each)
      where
        each : (j : ℕ) (y : Active) → slice_get new.activations j ≡ Some y → y.machine.instructions ≤ most
        each j y e = pick (last_or_before j (length old.activations) (let w = slice_get_within new.activations j y e in let c = start.count in omega (arith, w, c)))
          where
            pick : (j < length old.activations) ⊎ (j ≡ length old.activations) → y.machine.instructions ≤ most
            pick (inl w) = all_at (λ (x : Active). x.machine.instructions ≤ most) old.activations j y h (sym (start.earlier j w) ∙ e)
            pick (inr w) =
                let same : start.quiet.0 ≡ y = some_same (sym start.quiet.1 ∙ ap (slice_get new.activations) (start.number ∙ sym w) ∙ e) in
                let none : y.machine.instructions ≡ 0 = ap (λ (x : Active). x.machine.instructions) (sym same) ∙ start.quiet.2 in
                omega (arith, none)

    writes : WritesLine names (line.Start a trace inputs answers) old new before after
    writes im s h entries =
        let entered = entries trace fits.of fits.at fits.is_loop in
        let begun = start.starts im s h entered.0 entered.1 in
        let t = record s { activations = s.activations ++ first im s.parts trace inputs answers begun.0 ∷ [] } in
        let it : IsStarted (host_in old) im names a trace inputs answers s t (started_text (name_of names a)) = record {
          number = numbered ∙ zip_long (Tells old.set.table) old.activations s.activations h.each;
          entry = entered.0;
          entered = entered.1;
          machine = begun.0;
          starts = begun.1;
          after = refl;
          shown = refl;
        } in
        (t, started_text (name_of names a), it, begun.2, put)

-- with copies of what is given
pub starts : (names : List (List ℕ)) (a trace number : ℕ) (inputs given : List Value) (answers taken : List Answer) (old new : Sessioned) (before after : List ℕ)
    → given ≡ inputs → taken ≡ answers → a ≡ length old.activations → IsLineStart old.set trace inputs answers → IsStart trace given taken old new number → after ≡ before ++ started_text (name_of names a)
    → PutsLine names (line.Start a trace inputs answers) old new before after
starts names a trace number inputs given answers taken old new before after e f numbered fits start put =
    starts_so names a trace number inputs answers old new before after numbered fits (subst (λ z. IsStart trace inputs z old new number) f (subst (λ z. IsStart trace z taken old new number) e start)) put

-- ---- moves

pub steps : (names : List (List ℕ)) (a n : ℕ) (old new : Sessioned) (before after : List ℕ) → PutsMoves names a n old new before after → PutsLine names (line.Step a n) old new before after
steps names a n old new before after m = record { whole = m.whole; starts = m.starts; made = m.made; writes = λ im s h entries. m.writes im s h }

pub runs : (names : List (List ℕ)) (a n most : ℕ) (old new : Sessioned) (before after : List ℕ) → most ≡ (n + 1) * length old.image.bytes → PutsMoves names a most old new before after → PutsLine names (line.Run a n) old new before after
runs names a n most old new before after e m = record { whole = m.whole; starts = m.starts; made = m.made; writes = writes }
  where
    writes : WritesLine names (line.Run a n) old new before after
    writes im s h entries =
        let length_now : most ≡ most_of_run im s n = e ∙ ap (λ (l : List ℕ). (n + 1) * length l) (sym h.printed.code ∙ ap (code_at im) (sym h.parts)) in
        subst (λ z. (t : Session) × (text : List ℕ) × IsMoved (host_in old) old.set im names a z s t text × IsSession new im t × (after ≡ before ++ text)) length_now (m.writes im s h)

-- ---- lines

-- what a loop over lines keeps: those that are left fit, and what is written behind is written of all
pub record Goes (names : List (List ℕ)) (old now : Sessioned) (before after : List ℕ) (all rest : List Line) (most : ℕ) : Type 0 where
  pub whole : IsSameWhole old now
  pub fits : LinesFit old.set (length now.activations) rest
  pub starts : starts_behind (length now.activations) rest ≤ 16
  pub none : All AttachesNone rest
  pub made : HaveMade most now
  pub writes : (last : Sessioned) (final : List ℕ) → WritesLines names rest now last after final → WritesLines names all old last before final

pub goes_first : (names : List (List ℕ)) (old : Sessioned) (before : List ℕ) (all : List Line) → old.activations ≡ [] → LinesFit old.set 0 all → starts_behind 0 all ≤ 16 → All AttachesNone all → Goes names old old before before all all 0
goes_first names old before all fresh fits few none = record {
  whole = same_whole old;
  fits = subst (λ (l : List Active). LinesFit old.set (length l) all) (sym fresh) fits;
  starts = subst (λ (l : List Active). starts_behind (length l) all ≤ 16) (sym fresh) few;
  none = none;
  made = subst (λ (l : List Active). All (λ (a : Active). a.machine.instructions ≤ 0) l) (sym fresh) (All-nil (λ (a : Active). a.machine.instructions ≤ 0));
  writes = λ last final w. w;
}

whole_then : (a b c : Sessioned) → IsSameWhole a b → IsSameWhole b c → IsSameWhole a c
whole_then a b c x y = record { set = y.set ∙ x.set; optimised = y.optimised ∙ x.optimised; image = y.image ∙ x.image; arena_bytes = y.arena_bytes ∙ x.arena_bytes }

same_host : (a b : Sessioned) → IsSameWhole a b → host_in b ≡ host_in a
same_host a b x =
    ap (λ s. host_of s (all_pieces b.optimised.traces) b.arena_bytes) x.set ∙ ap (λ o. host_of a.set (all_pieces o.traces) b.arena_bytes) x.optimised ∙ ap (λ n. host_of a.set (all_pieces a.optimised.traces) n) x.arena_bytes

-- one line more
lines_then : (names : List (List ℕ)) (l : Line) (ls : List Line) (now next last : Sessioned) (before mid final : List ℕ) → IsSameWhole now next → WritesLine names l now next before mid → WritesLines names ls next last mid final → WritesLines names (l ∷ ls) now last before final
lines_then names l ls now next last before mid final same one rest im s h entries =
    let w = one im s h entries in
    let entries_next = subst (λ z. HasEntries z im) (sym same.set) entries in
    let r = rest im w.0 w.3 entries_next in
    let lines = subst (λ z. AreLines z now.set im names ls w.0 r.0 r.1) (same_host now next same) (subst (λ z. AreLines (host_in next) z im names ls w.0 r.0 r.1) same.set r.2) in
    (r.0, w.1 ++ r.1, (w.0, w.1, r.1, w.2, lines, refl), r.3, r.4 ∙ ap (λ z. z ++ r.1) w.4 ∙ append_assoc before w.1 r.1)

pub line_fits : (set : TraceSet) (k : ℕ) (l : Line) (ls : List Line) → LinesFit set k (l ∷ ls) → LineFits set k l
unfolding LinesFit
line_fits set k l ls h = h.0

pub lines_fit : (set : TraceSet) (k : ℕ) (l : Line) (ls : List Line) → LinesFit set k (l ∷ ls) → LinesFit set (with_start_of l k) ls
unfolding LinesFit
lines_fit set k l ls h = h.1

pub starts_then : (k : ℕ) (l : Line) (ls : List Line) → starts_behind k (l ∷ ls) ≡ starts_behind (with_start_of l k) ls
unfolding starts_behind
starts_then k l ls = refl

with_start : (l : Line) (k : ℕ) → k ≤ with_start_of l k
with_start (line.Start a t vs answers) k = omega arith
with_start (line.Step a count) k = omega arith
with_start (line.Run a n) k = omega arith
with_start (line.Attach b) k = omega arith

pub starts_grow : (k : ℕ) (ls : List Line) → k ≤ starts_behind k ls
unfolding starts_behind
starts_grow k [] = omega arith
starts_grow k (l ∷ ls) = (let a = with_start l k in let b = starts_grow (with_start_of l k) ls in omega (arith, a, b))

pub goes_next : (names : List (List ℕ)) (old now next : Sessioned) (before mid after : List ℕ) (all ls : List Line) (l : Line) (made : ℕ)
    → Goes names old now before mid all (l ∷ ls) made → PutsLine names l now next mid after → Goes names old next before after all ls (made + most_of_line)
goes_next names old now next before mid after all ls l made g p = record {
  whole = whole_then old now next g.whole p.whole;
  fits = subst (λ n. LinesFit old.set n ls) (sym p.starts) (lines_fit old.set (length now.activations) l ls g.fits);
  starts = subst (λ n. starts_behind n ls ≤ 16) (sym p.starts) (subst (λ n. n ≤ 16) (starts_then (length now.activations) l ls) g.starts);
  none = All-tail AttachesNone l ls g.none;
  made = p.made made g.made;
  writes = λ last final w. g.writes last final (lines_then names l ls now next last mid after final p.whole p.writes w);
}

pub goes_last : (names : List (List ℕ)) (old now : Sessioned) (before after : List ℕ) (all : List Line) (made : ℕ) → Goes names old now before after all [] made → PutsLines names all old now before after
goes_last names old now before after all made g = record {
  whole = g.whole;
  writes = g.writes now after (λ im s h entries. (s, [], (refl, refl), h, sym (append-nil after)));
}

-- what holds of the line that comes next
pub next_fits : (names : List (List ℕ)) (old now : Sessioned) (before after : List ℕ) (all ls : List Line) (l : Line) (most : ℕ) → Goes names old now before after all (l ∷ ls) most → LineFits now.set (length now.activations) l
next_fits names old now before after all ls l most g = subst (λ z. LineFits z (length now.activations) l) (sym g.whole.set) (line_fits old.set (length now.activations) l ls g.fits)

pub next_few : (names : List (List ℕ)) (old now : Sessioned) (before after : List ℕ) (all rest : List Line) (most : ℕ) → Goes names old now before after all rest most → length now.activations ≤ 16
next_few names old now before after all rest most g = (let a = starts_grow (length now.activations) rest in let b = g.starts in omega (arith, a, b))

pub next_starts : (names : List (List ℕ)) (old now : Sessioned) (before after : List ℕ) (all ls : List Line) (l : Line) (most : ℕ) → Goes names old now before after all (l ∷ ls) most → with_start_of l (length now.activations) ≤ 16
next_starts names old now before after all ls l most g =
    let a = starts_grow (with_start_of l (length now.activations)) ls in
    let b = subst (λ n. n ≤ 16) (starts_then (length now.activations) l ls) g.starts in
    omega (arith, a, b)

-- with the lines that are left from a place on
pub left_at : (lines : List Line) (i : ℕ) (l : Line) → i < length lines → l ≡ slice_index_or lines i l → drop i lines ≡ l ∷ drop (i + 1) lines
left_at lines i l lt is = drop_next lines i l lt ∙ ap (λ z. z ∷ drop (i + 1) lines) (sym is)

pub counted_next : (k m : ℕ) → k * m + m ≡ (k + 1) * m
counted_next k m = omega (arith)

pub left_none : (lines : List Line) (i : ℕ) → length lines ≤ i → drop i lines ≡ []
left_none lines i h = drop_all i lines h

-- ---- bounds

-- a run of so many rounds of a code
pub most_run : (n len : ℕ) → n ≤ 10 ^ 6 → len < 2 ^ 30 → (n + 1) * len ≤ most_of_line
most_run n len h small =
    let rounds : n + 1 ≤ 2 ^ 20 = omega (arith, h) in
    let bytes : len ≤ 2 ^ 30 = omega (arith, small) in
    let product : (n + 1) * len ≤ 2 ^ 20 * 2 ^ 30 = mul-le-mul rounds bytes in
    product

-- so many lines
pub most_made : (k made : ℕ) → k ≤ 4096 → made ≡ k * most_of_line → made ≤ 2 ^ 62
most_made k made h e = (let product : k * most_of_line ≤ 4096 * most_of_line = mul-le-mul_right most_of_line h in subst (λ z. z ≤ 2 ^ 62) (sym e) product)

-- so many instructions more may be made
pub may_make : (x m : ℕ) → x ≤ 2 ^ 62 → m ≤ most_of_line → x + m ≤ 2 ^ 63
may_make x m h g = omega (arith, h, g)

pub stepped : (n : ℕ) → n ≤ 10 ^ 7 → n ≤ most_of_line
stepped n h = omega (arith, h)
