-- The numbers of the roots of calls, taken off call by call.
use Rattle.std.proofs.Common.{◌≡◌, Option, Some, None, List, [], ◌∷◌, ◌++◌, length, map, take, drop, refl, ap, sym, ◌∙◌, append_assoc}
use Rattle.std.specs.Option.{option_to_list}
use Rattle.std.proofs.lemmas.List.{map-append, length-map}
use Rattle.std.proofs.Math.Seq.{take-append_seam, drop-append_seam}
use Rattle.trace_ops.specs.declared.table.Table.{Table}
use Rattle.trace_meaning.specs.declared.value.Value.{Value}
use Rattle.trace_meaning.specs.declared.call.CallEvent.{CallEvent}
use Rattle.heap_shape.specs.declared.cell.Ref.{Ref}
use Rattle.heap_shape.specs.Roots.{roots_of_call, roots_of_calls}
use Rattle.seen_text.specs.Calls.{args_of, seen_of, behind_given, behind_call, behind_calls, call_line, call_lines}
use Rattle.seen_text.specs.Shown.{shown_call, shown_calls, CallsShowTheirValues}

module _ (f : Value → Ref) where
  front : (xs : List Value) (more : List Ref) → take (length xs) (map f xs ++ more) ≡ map f xs
  front xs more =
      let same : length (map f xs) ≡ length xs = length-map xs f in
      ap (λ n. take n (map f xs ++ more)) (sym same) ∙ take-append_seam (map f xs) more

  behind : (xs : List Value) (more : List Ref) → drop (length xs) (map f xs ++ more) ≡ more
  behind xs more =
      let same : length (map f xs) ≡ length xs = length-map xs f in
      ap (λ n. drop n (map f xs ++ more)) (sym same) ∙ drop-append_seam (map f xs) more

  given : (x : Option Value) (more : List Ref) → behind_given x (map f (option_to_list x) ++ more) ≡ more
  given None more = refl
  given (Some x) more = refl

  -- the numbers of a call, in three parts
  parts : (c : CallEvent) (more : List Ref) → map f (roots_of_call c) ++ more ≡ map f c.args ++ (map f c.seen ++ (map f (option_to_list c.gives) ++ more))
  parts c more =
      let g : List Value = option_to_list c.gives in
      ap (λ x. x ++ more) (map-append f (c.args ++ c.seen) g ∙ ap (λ x. x ++ map f g) (map-append f c.args c.seen))
      ∙ append_assoc (map f c.args ++ map f c.seen) (map f g) more
      ∙ append_assoc (map f c.args) (map f c.seen) (map f g ++ more)

  args_shown : (c : CallEvent) (more : List Ref) → args_of c (map f (roots_of_call c) ++ more) ≡ map f c.args
  args_shown c more = ap (args_of c) (parts c more) ∙ front c.args _

  behind_args : (c : CallEvent) (more : List Ref) → drop (length c.args) (map f (roots_of_call c) ++ more) ≡ map f c.seen ++ (map f (option_to_list c.gives) ++ more)
  behind_args c more = ap (drop (length c.args)) (parts c more) ∙ behind c.args _

  seen_shown : (c : CallEvent) (more : List Ref) → seen_of c (map f (roots_of_call c) ++ more) ≡ map f c.seen
  seen_shown c more = ap (take (length c.seen)) (behind_args c more) ∙ front c.seen _

  call_left : (c : CallEvent) (more : List Ref) → behind_call c (map f (roots_of_call c) ++ more) ≡ more
  call_left c more = ap (λ x. behind_given c.gives (drop (length c.seen) x)) (behind_args c more) ∙ ap (behind_given c.gives) (behind c.seen _) ∙ given c.gives more

  line_shown : (t : Table) (c : CallEvent) (more : List Ref) → call_line t c (map f (roots_of_call c) ++ more) ≡ shown_call t f c
  unfolding call_line
  line_shown t c more = rw (args_shown c more, seen_shown c more) refl

  -- the numbers of a first call, and those behind it
  apart : (c : CallEvent) (cs : List CallEvent) (more : List Ref) → map f (roots_of_calls (c ∷ cs)) ++ more ≡ map f (roots_of_call c) ++ (map f (roots_of_calls cs) ++ more)
  apart c cs more = ap (λ x. x ++ more) (map-append f (roots_of_call c) (roots_of_calls cs)) ∙ append_assoc (map f (roots_of_call c)) (map f (roots_of_calls cs)) more

  lines_shown : (t : Table) (calls : List CallEvent) (more : List Ref) → call_lines t calls (map f (roots_of_calls calls) ++ more) ≡ shown_calls t f calls
  lines_shown t [] more = refl
  lines_shown t (c ∷ cs) more =
      let rest : List Ref = map f (roots_of_calls cs) ++ more in
      ap (λ rs. call_line t c rs ++ call_lines t cs (behind_call c rs)) (apart c cs more)
      ∙ ap (λ x. x ++ call_lines t cs (behind_call c (map f (roots_of_call c) ++ rest))) (line_shown t c rest)
      ∙ ap (λ rs. shown_call t f c ++ call_lines t cs rs) (call_left c rest)
      ∙ ap (λ x. shown_call t f c ++ x) (lines_shown t cs more)

  calls_left : (calls : List CallEvent) (more : List Ref) → behind_calls calls (map f (roots_of_calls calls) ++ more) ≡ more
  calls_left [] more = refl
  calls_left (c ∷ cs) more =
      let rest : List Ref = map f (roots_of_calls cs) ++ more in
      ap (λ rs. behind_calls cs (behind_call c rs)) (apart c cs more) ∙ ap (behind_calls cs) (call_left c rest) ∙ calls_left cs more

pub calls_shown : CallsShowTheirValues
calls_shown t f calls more = (lines_shown f t calls more, calls_left f calls more)
