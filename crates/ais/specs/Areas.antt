-- Message 6 with application 412/11, an area marked off: its layout, record, promises and demands, from crate `area`.
unfoldable pub use Rattle.area.specs.Area.{areas}
pub use Rattle.area.specs.Area.{values_of, record_of}
unfoldable pub use Rattle.area.specs.Changed.{changed}
pub use Rattle.area.specs.Changed.{field_of, spot_by, changed_by}
pub use Rattle.area.specs.Promises.{Reads}
pub use Rattle.area.specs.Laws.Demands.{family, written_reads, read_writes_back, corrected}
