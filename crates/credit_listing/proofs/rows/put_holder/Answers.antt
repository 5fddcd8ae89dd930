use Rattle.credit_listing.proofs.rows.put_holder.Goals as goal

pub returns : goal.returns
returns c =
    rw (
      c.isrc_text.ensures,
      c.as_slice.ensures.value,
      c.in_ok-set_account.ensures,
      c.as_bytes.ensures.value,
      c.format.ensures.text,
      c.as_bytes-2.ensures.value,
      c.format-2.ensures.text,
      c.as_bytes-3.ensures.value,
      c.format-3.ensures.text,
      c.as_bytes-4.ensures.value,
      c.format-4.ensures.text,
      c.as_bytes-5.ensures.bytes,
      c.as_bytes-6.ensures.bytes,
      c.as_bytes-7.ensures.value,
      c.format-5.ensures.text,
      c.as_bytes-8.ensures.value,
      c.format-6.ensures.text,
      c.as_bytes-9.ensures.value,
      c.format-7.ensures.text,
    )
    at c.put_row.ensures
