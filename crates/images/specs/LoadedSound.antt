-- What holds of every rule table holds of each loaded table, by its invariant.
use Rattle.std.specs.Prelude.{◌+◌, ◌*◌, slice_index_or}
use Rattle.std.proofs.Common.{arith}
use Rattle.std.proofs.lemmas.Nat.{mul-add-lt}
use Rattle.tables.specs.Table.{Sound}
use Rattle.images.specs.declared.loaded.LoadedTable.{LoadedTable}
use Rattle.images.specs.Loaded.{table_of}

pub loaded_table_is_sound : (t : LoadedTable) → Sound (table_of t)
loaded_table_is_sound t = record {
  some = t.some_state;
  few = t.few_states;
  inside = λ s b hs hb.
      let class = slice_index_or t.class_of b 0 in
      t.steps_inside (s * t.classes + class) (omega (arith, mul-add-lt s t.classes class t.states hs (t.classes_inside b hb)));
  labels = t.labels_are_bytes;
}
