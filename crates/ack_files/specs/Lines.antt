-- The lines of the records that an acknowledgement has, each with its line end (CISAC CWR 2.2).
use Rattle.std.specs.Prelude.{ℕ, List}
use Rattle.cwr_records.specs.Layouts.{row, ended}
use Rattle.cwr_records.specs.Places.{header_places, group_header_places, acknowledgement_places, group_trailer_places, trailer_places}
use Rattle.cwr_records.specs.Records.{header_contents, group_header_contents, acknowledgement_contents, group_trailer_contents, trailer_contents}
use Rattle.cwr_records.specs.declared.acknowledgement.AcknowledgementRecord.{AcknowledgementRecord}
use Rattle.cwr_records.specs.declared.group_header.GroupHeader.{GroupHeader}
use Rattle.cwr_records.specs.declared.group_trailer.GroupTrailer.{GroupTrailer}
use Rattle.cwr_records.specs.declared.transmission_header.TransmissionHeader.{TransmissionHeader}
use Rattle.cwr_records.specs.declared.transmission_trailer.TransmissionTrailer.{TransmissionTrailer}

-- the line of an HDR record
unfoldable pub header_line : TransmissionHeader → List ℕ
header_line header = ended (row header_places (header_contents header))

-- the line of a GRH record
unfoldable pub group_header_line : GroupHeader → List ℕ
group_header_line header = ended (row group_header_places (group_header_contents header))

-- the line of an ACK record
unfoldable pub acknowledgement_line : AcknowledgementRecord → List ℕ
acknowledgement_line source = ended (row acknowledgement_places (acknowledgement_contents source))

-- the line of a GRT record
unfoldable pub group_trailer_line : GroupTrailer → List ℕ
group_trailer_line trailer = ended (row group_trailer_places (group_trailer_contents trailer))

-- the line of a TRL record
unfoldable pub trailer_line : TransmissionTrailer → List ℕ
trailer_line trailer = ended (row trailer_places (trailer_contents trailer))
