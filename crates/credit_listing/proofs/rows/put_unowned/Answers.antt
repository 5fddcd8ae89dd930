use Rattle.credit_listing.proofs.rows.put_unowned.Goals as goal

pub returns : goal.returns
returns c =
    rw (
      c.isrc_text.ensures,
      c.as_slice.ensures,
      c.as_slice-2.ensures,
      c.as_slice-3.ensures,
      c.as_slice-4.ensures.value,
      c.as_slice-5.ensures,
      c.in_ok-set_account.ensures,
      c.as_bytes.ensures.value,
      c.format.ensures.text,
      c.as_bytes-2.ensures.value,
      c.format-2.ensures.text,
      c.as_bytes-3.ensures.value,
      c.format-3.ensures.text,
      c.as_bytes-4.ensures.value,
      c.format-4.ensures.text,
      c.as_bytes-5.ensures.value,
      c.format-5.ensures.text,
    ) at c.put_row.ensures
