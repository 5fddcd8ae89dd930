-- Lemmas on bodies in JSON.
use Rattle.std.proofs.Common.{◌≡◌, ℕ, Bool, true, false, List, Some, None, refl, sym}
use Rattle.std.specs.Str.{is_utf8, IsUtf8}
use Rattle.std.proofs.lemmas.Str.{IsUtf8-from_is_utf8, is_utf8-from_IsUtf8}
use Rattle.serde_json.specs.Data.{Data}
use Rattle.serde_json.specs.Read.{read}
use Rattle.http_text.specs.JsonBodies.{json_of}

pub value_read : (body : List ℕ) (value : Data) → IsUtf8 body → read body ≡ Some value → Some value ≡ json_of body
value_read body value text is = rw (is_utf8-from_IsUtf8 body text) (sym is)

pub value_missing : (body : List ℕ) → (IsUtf8 body → read body ≡ None) → None ≡ json_of body
value_missing body none = by_text (is_utf8 body) refl
  where
    by_text : (t : Bool) → is_utf8 body ≡ t → None ≡ json_of body
    by_text true e = rw e (sym (none (IsUtf8-from_is_utf8 body e)))
    by_text false e = rw e refl
