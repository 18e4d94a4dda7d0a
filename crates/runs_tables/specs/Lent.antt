-- The tables that first units are told by are the right ones. Assumes nothing.
use Rattle.std.specs.Prelude.{◌≡◌}
use Rattle.format.specs.Alphabet.{sextet_table}
use Rattle.runs.specs.Plain.{plain_table, class_table}
use Rattle.runs_tables.specs.declared.Tables.{Tables}

-- the tables of characters, of a group's letters and of codes
pub record Lent (tables : Tables) : Type 0 where
  pub characters : tables.values ≡ sextet_table
  pub letters : tables.classes ≡ class_table
  pub codes : tables.rows ≡ plain_table
