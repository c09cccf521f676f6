use Rattle.std.proofs.Common.{refl, inl, ap, Err}
use Rattle.tj_app.proofs.command.all_of.Goals as goal

pub returns-in-Err-TooLong : goal.returns-in-Err-TooLong
returns-in-Err-TooLong g c =
    let long = c.in-Err-TooLong in
    λ command. inl (refl, refl, (long.ensures.long long.field-0-0 (ap Err long.field-0-is)).1)
