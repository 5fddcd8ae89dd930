-- The layout of each record type, as a table of its fields: the office's profile of CISAC CWR 2.2. Positions that no field
-- has are blank.
use Rattle.std.specs.Prelude.{ℕ, List, [], ◌∷◌, ◌++◌, codes}
use Rattle.cwr_records.specs.Layouts.{Place, place, named}

-- where every record has its record type (CISAC CWR 2.2)
abbrev pub record_type_place : Place
record_type_place = place (codes "record type") 1 3

-- what every record of a transaction begins with (CISAC CWR 2.2)
abbrev pub record_prefix : List Place
record_prefix =
    record_type_place
    ∷ place (codes "transaction sequence number") 4 11
    ∷ place (codes "record sequence number") 12 19
    ∷ []

-- the record type of a line (CISAC CWR 2.2)
abbrev pub record_type_in : List ℕ → List ℕ
record_type_in line = named (codes "record type") record_prefix line

-- the transaction sequence number of a record of a transaction (CISAC CWR 2.2)
abbrev pub transaction_sequence_in : List ℕ → List ℕ
transaction_sequence_in line = named (codes "transaction sequence number") record_prefix line

-- the record sequence number of a record of a transaction (CISAC CWR 2.2)
abbrev pub record_sequence_in : List ℕ → List ℕ
record_sequence_in line = named (codes "record sequence number") record_prefix line

-- HDR, the header of a transmission (CISAC CWR 2.2)
abbrev pub header_places : List Place
header_places =
    record_type_place
    ∷ place (codes "sender type") 4 5
    ∷ place (codes "sender ID") 6 14
    ∷ place (codes "sender name") 15 59
    ∷ place (codes "EDI version") 60 64
    ∷ place (codes "creation date") 65 72
    ∷ place (codes "creation time") 73 78
    ∷ place (codes "transmission date") 79 86
    ∷ place (codes "character set") 87 101
    ∷ []

-- GRH, the header of a group (CISAC CWR 2.2)
abbrev pub group_header_places : List Place
group_header_places =
    record_type_place
    ∷ place (codes "transaction type") 4 6
    ∷ place (codes "group ID") 7 11
    ∷ place (codes "version") 12 16
    ∷ place (codes "batch request") 17 26
    ∷ place (codes "submission type") 27 28
    ∷ []

-- NWR and REV, a work that is registered or revised (CISAC CWR 2.2)
abbrev pub work_places : List Place
work_places =
    record_prefix
    ++ place (codes "title") 20 79
    ∷ place (codes "language") 80 81
    ∷ place (codes "submitter work number") 82 95
    ∷ place (codes "ISWC") 96 106
    ∷ place (codes "copyright date") 107 114
    ∷ place (codes "copyright number") 115 126
    ∷ place (codes "distribution category") 127 129
    ∷ place (codes "duration") 130 135
    ∷ place (codes "recorded indicator") 136 136
    ∷ place (codes "text music relationship") 137 139
    ∷ place (codes "composite type") 140 142
    ∷ place (codes "version type") 143 145
    ∷ []

-- SPU and OPU, a publisher with its ownership shares (CISAC CWR 2.2)
abbrev pub publisher_places : List Place
publisher_places =
    record_prefix
    ++ place (codes "publisher sequence") 20 21
    ∷ place (codes "IP #") 22 30
    ∷ place (codes "name") 31 75
    ∷ place (codes "unknown indicator") 76 76
    ∷ place (codes "publisher type") 77 78
    ∷ place (codes "tax ID") 79 87
    ∷ place (codes "IPI name number") 88 98
    ∷ place (codes "submitter agreement number") 99 112
    ∷ place (codes "PR society") 113 115
    ∷ place (codes "PR share") 116 120
    ∷ place (codes "MR society") 121 123
    ∷ place (codes "MR share") 124 128
    ∷ place (codes "SR society") 129 131
    ∷ place (codes "SR share") 132 136
    ∷ []

-- SPT, the collection shares of a publisher in a territory (CISAC CWR 2.2)
abbrev pub publisher_territory_places : List Place
publisher_territory_places =
    record_prefix
    ++ place (codes "IP #") 20 28
    ∷ place (codes "PR share") 35 39
    ∷ place (codes "MR share") 40 44
    ∷ place (codes "SR share") 45 49
    ∷ place (codes "indicator") 50 50
    ∷ place (codes "TIS code") 51 54
    ∷ place (codes "shares change") 55 55
    ∷ place (codes "sequence") 56 58
    ∷ []

-- SWR and OWR, a writer with its ownership shares (CISAC CWR 2.2)
abbrev pub writer_places : List Place
writer_places =
    record_prefix
    ++ place (codes "IP #") 20 28
    ∷ place (codes "last name") 29 73
    ∷ place (codes "first name") 74 103
    ∷ place (codes "unknown indicator") 104 104
    ∷ place (codes "designation") 105 106
    ∷ place (codes "tax ID") 107 115
    ∷ place (codes "IPI name number") 116 126
    ∷ place (codes "PR society") 127 129
    ∷ place (codes "PR share") 130 134
    ∷ place (codes "MR society") 135 137
    ∷ place (codes "MR share") 138 142
    ∷ place (codes "SR society") 143 145
    ∷ place (codes "SR share") 146 150
    ∷ []

-- SWT, the collection shares of a writer in a territory (CISAC CWR 2.2)
abbrev pub writer_territory_places : List Place
writer_territory_places =
    record_prefix
    ++ place (codes "IP #") 20 28
    ∷ place (codes "PR share") 29 33
    ∷ place (codes "MR share") 34 38
    ∷ place (codes "SR share") 39 43
    ∷ place (codes "indicator") 44 44
    ∷ place (codes "TIS code") 45 48
    ∷ place (codes "shares change") 49 49
    ∷ place (codes "sequence") 50 52
    ∷ []

-- PWR, the publisher of a writer (CISAC CWR 2.2)
abbrev pub publisher_for_writer_places : List Place
publisher_for_writer_places =
    record_prefix
    ++ place (codes "publisher IP #") 20 28
    ∷ place (codes "publisher name") 29 73
    ∷ place (codes "submitter agreement number") 74 87
    ∷ place (codes "society agreement number") 88 101
    ∷ place (codes "writer IP #") 102 110
    ∷ []

-- ALT, a further title of a work (CISAC CWR 2.2)
abbrev pub alternate_title_places : List Place
alternate_title_places =
    record_prefix
    ++ place (codes "title") 20 79
    ∷ place (codes "title type") 80 81
    ∷ place (codes "language") 82 83
    ∷ []

-- REC, a recording of a work (CISAC CWR 2.2)
abbrev pub recording_places : List Place
recording_places =
    record_prefix
    ++ place (codes "release date") 20 27
    ∷ place (codes "release duration") 88 93
    ∷ place (codes "album title") 99 158
    ∷ place (codes "label") 159 218
    ∷ place (codes "catalogue number") 219 236
    ∷ place (codes "EAN") 237 249
    ∷ place (codes "ISRC") 250 261
    ∷ []

-- ACK, what became of a transaction (CISAC CWR 2.2)
abbrev pub acknowledgement_places : List Place
acknowledgement_places =
    record_prefix
    ++ place (codes "original creation date") 20 27
    ∷ place (codes "original creation time") 28 33
    ∷ place (codes "original group ID") 34 38
    ∷ place (codes "original transaction sequence") 39 46
    ∷ place (codes "original transaction type") 47 49
    ∷ place (codes "creation title") 50 109
    ∷ place (codes "submitter creation number") 110 129
    ∷ place (codes "recipient creation number") 130 149
    ∷ place (codes "processing date") 150 157
    ∷ place (codes "status") 158 159
    ∷ []

-- GRT, the trailer of a group (CISAC CWR 2.2)
abbrev pub group_trailer_places : List Place
group_trailer_places =
    record_type_place
    ∷ place (codes "group ID") 4 8
    ∷ place (codes "transaction count") 9 16
    ∷ place (codes "record count") 17 24
    ∷ []

-- TRL, the trailer of a transmission (CISAC CWR 2.2)
abbrev pub trailer_places : List Place
trailer_places =
    record_type_place
    ∷ place (codes "group count") 4 8
    ∷ place (codes "transaction count") 9 16
    ∷ place (codes "record count") 17 24
    ∷ []
