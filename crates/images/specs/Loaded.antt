-- What a loaded table means.
use Rattle.std.specs.Prelude.{◌+◌, ◌*◌, slice_index}
use Rattle.tables.specs.Table.{Table}
use Rattle.images.specs.declared.loaded.LoadedTable.{LoadedTable}

-- A state's row has one next state for each class.
abbrev pub table_of : LoadedTable → Table
table_of t = record {
  states = t.states;
  next = λ s b. slice_index t.steps (s * t.classes + slice_index t.class_of b);
  label = λ s. slice_index t.labels s;
}
