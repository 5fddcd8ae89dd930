use Rattle.society_rows.proofs.lemmas.readings.KeyEquality.{text_key, number_key, text_number_key, text_text_key, text_segment_key, segments_ordered}
use Rattle.society_rows.proofs.keys.keys_are_values.Goals as goal

pub returns : goal.returns
returns c = record { texts = text_key; numbers = number_key; numbered = text_number_key; pairs = text_text_key; segments = text_segment_key; ordered = segments_ordered }
