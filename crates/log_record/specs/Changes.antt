-- A changed payload as a record of single cells.
use Rattle.log_record.specs.declared.cell_record.CellRecord.{CellRecord}
use Rattle.log_record.specs.declared.cell_record.CellRecord.TheVariants.{Pay}
use Rattle.log_record.specs.declared.payload_change.PayloadChange.{PayloadChange}

abbrev pub change_record : PayloadChange → CellRecord
change_record c = Pay c.pass c.id c.old_value c.new_value
