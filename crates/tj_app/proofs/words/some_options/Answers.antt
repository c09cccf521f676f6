use Rattle.std.proofs.Common.{◌≡◌, [], ◌∷◌, map, sym, subst, arith}
use Rattle.std.proofs.lemmas.List.{nil_from_length}
use Rattle.std.specs.String.{string_bytes}
use Rattle.tj_app.specs.Asking.{ReadsOptions}
use Rattle.tj_app.proofs.words.some_options.Goals as goal

pub returns-in-empty-clause-read : goal.returns-in-empty-clause-read
returns-in-empty-clause-read c =
    let none : c.args.more.now ≡ [] = nil_from_length c.args.more.now (omega (arith, c.in-empty.len_below)) in
    subst (λ more. ReadsOptions (string_bytes c.args.key.now ∷ string_bytes c.args.word.now ∷ map string_bytes more) c.one_option.result) (sym none) c.one_option.ensures.read
