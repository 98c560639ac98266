-- Message 8 with application 412/03, a warning: its layout, record, promises and demands, from crate `warning`.
unfoldable pub use Rattle.warning.specs.Warning.{warnings}
pub use Rattle.warning.specs.Warning.{values_of, record_of}
unfoldable pub use Rattle.warning.specs.Changed.{changed}
pub use Rattle.warning.specs.Changed.{field_of, spot_by, changed_by}
pub use Rattle.warning.specs.Promises.{Reads}
pub use Rattle.warning.specs.Laws.Demands.{family, written_reads, read_writes_back, corrected}
