use Rattle.std.proofs.Common.{◌∙◌, ◌++◌, ap, List, ℕ}
use Rattle.std.specs.Prelude.{codes, decimal}
use Rattle.http_text.specs.Text.{type_text, connection_field}
use Rattle.http_text.proofs.lemmas.TextLemmas.{join_six}
use Rattle.http_text.proofs.text.put_fields.Goals as goal

pub returns-clause-items : goal.returns-clause-items
returns-clause-items c =
    join_six c.args.out.now.items (codes "\r\nContent-Type: ") (type_text c.args.content_type) (codes "\r\nContent-Length: ") (decimal c.args.size) (connection_field c.args.close) (codes "\r\n\r\n")
    _ _ _ _ _ _
    c.put.ensures.items
    (c.put-2.ensures.items ∙ ap (λ (v : List ℕ). c.put.new.out.items ++ v) (c.as_bytes.ensures.value ∙ c.type_name.ensures.value))
    c.put-3.ensures.items
    c.put_number.ensures.items
    (c.put-4.ensures.items ∙ ap (λ (v : List ℕ). c.put_number.new.out.items ++ v) (c.as_bytes-2.ensures.value ∙ c.connection_line.ensures.value))
    c.put-5.ensures.items
