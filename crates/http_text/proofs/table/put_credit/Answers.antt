use Rattle.http_text.proofs.table.put_credit.Goals as goal

pub returns : goal.returns
returns c =
    rw (c.isrc_text.ensures, c.as_slice.ensures.value, c.in_ok-set_account.ensures, c.as_bytes-units.ensures.value, c.format.ensures.text) at c.put_row.ensures
