-- What the crates below promise of lines and tables, as the proofs of this one take it.
use Rattle.std.specs.Prelude.{◌≡◌, ℕ, List, Some}
use Rattle.text_lines.specs.Laws.{LinesAreSpelled}
use Rattle.descr_table.specs.declared.form.Form.{Form}
use Rattle.descr_table.specs.Form.{form_at}
use Rattle.descr_table.specs.Spelling.{Spells, IsForm}
use Rattle.descr_table.specs.Laws.{TablesAreInRange, TablesAreReadBack}

pub record TextLaws : Type 0 where
  pub spelled : LinesAreSpelled
  pub form_takes : (ws : List (List ℕ)) (f : Form) → form_at ws ≡ Some f → Spells ws f × IsForm f
  pub tables_in_range : TablesAreInRange
  pub tables_back : TablesAreReadBack
