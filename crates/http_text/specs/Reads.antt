-- How the bytes of a connection are cut into requests, and how it ends.
use Rattle.std.specs.Prelude.{◌≡◌, ◌≢◌, ◌⊎◌, ℕ, ◌+◌, ◌<◌, ◌≤◌, true, List, [], ◌∷◌, ◌++◌, length}
use Rattle.std.specs.List.{flat_map, AllByRecursion}
use Rattle.httparse.specs.Grammar.{RequestHead, print_request, HasNoRequest, MayBecomeRequest}
use Rattle.http_text.specs.declared.body_length.BodyLength.TheVariants.{Sized, Faulty, Large}
use Rattle.http_text.specs.declared.connection_end.End.{End}
use Rattle.http_text.specs.declared.connection_end.End.TheVariants.{Quiet, Closed, Bad, TooLarge, Busy}
use Rattle.http_text.specs.BodyLength.{body_length, closes}
use Rattle.http_text.specs.Part.{Part, print_part, BeginsWithHead, IsPart, IsOpenPart, max_head}
use Rattle.http_text.specs.Path.{PutsTransmission}

-- the bytes are these requests, each of which leaves the connection open, and then rest
pub record Cuts (bytes : List ℕ) (parts : List Part) (rest : List ℕ) : Type 0 where
  pub whole : bytes ≡ flat_map print_part parts ++ rest
  pub each : AllByRecursion IsOpenPart parts

-- the bytes do not begin with a head within the limits
abbrev pub HasNoHead : List ℕ → Type 0
HasNoHead bytes = (head : RequestHead) (rest : List ℕ) → ¬ (BeginsWithHead bytes head rest)

-- no whole request stands at the front of the bytes
abbrev pub HasNoPart : List ℕ → Type 0
HasNoPart bytes = (part : Part) (rest : List ℕ) → IsPart part → bytes ≢ print_part part ++ rest

-- the length of a head's body is at fault, or its body is cut short
abbrev pub IsFaulty : RequestHead → List ℕ → Type 0
IsFaulty head rest = (body_length head ≡ Faulty) ⊎ ((size : ℕ) × (body_length head ≡ Sized size) × (length rest < size))

-- no whole head stands there, though more bytes may make one by the grammar, and there is room for them
pub record AwaitsHead (bytes : List ℕ) : Type 0 where
  pub none : HasNoRequest bytes
  pub short : length bytes < max_head
  pub possible : bytes ≢ [] → MayBecomeRequest bytes

-- a head without fault stands there, and its body is not whole
pub record AwaitsBody (bytes : List ℕ) : Type 0 where
  pub head : RequestHead
  pub rest : List ℕ
  pub size : ℕ
  pub begins : BeginsWithHead bytes head rest
  pub sized : body_length head ≡ Sized size
  pub short : length rest < size

-- nothing can be said of the bytes before more have come: they are no whole request, and neither refused nor too large yet
abbrev pub Awaits : List ℕ → Type 0
Awaits bytes = AwaitsHead bytes ⊎ AwaitsBody bytes

-- bytes that are no request: no head, or one at fault
abbrev pub IsBad : List ℕ → Type 0
IsBad bytes =
    ((bytes ≢ []) × HasNoHead bytes)
    ⊎ ((head : RequestHead) × (rest : List ℕ) × BeginsWithHead bytes head rest × IsFaulty head rest)

-- a head without fault that announces more than the greatest body
abbrev pub IsTooLarge : List ℕ → Type 0
IsTooLarge bytes = (head : RequestHead) × (rest : List ℕ) × BeginsWithHead bytes head rest × (body_length head ≡ Large)

-- the longest request, in bytes of head and body, for which no memory is asked while it is read, where its body is not kept (profile)
abbrev pub small_request : ℕ
small_request = 65536

-- memory is asked at the office of a society while a request with this head and so large a body is read: it is above that, or puts a transmission there, whose body is kept from its first byte on (profile)
abbrev pub AsksMemory : ℕ → RequestHead → ℕ → Type 0
AsksMemory society head size = (small_request < length (print_request head) + size) ⊎ (PutsTransmission society head × (1 ≤ size))

-- a head without fault after which memory can be refused at the office of a society
abbrev pub MayBeBusy : ℕ → List ℕ → Type 0
MayBeBusy society bytes =
    (head : RequestHead) × (rest : List ℕ) × BeginsWithHead bytes head rest
    × ((size : ℕ) × (body_length head ≡ Sized size) × AsksMemory society head size)

-- the bytes are a request that ends the connection, and what is not read
abbrev pub IsLast : List ℕ → Part → Type 0
IsLast bytes part = (rest : List ℕ) × IsPart part × (closes part.head ≡ true) × (bytes ≡ print_part part ++ rest)

-- what stands after the requests that leave a connection to the office of a society open, where it ends so: one last request or none
abbrev pub IsRemainder : ℕ → List ℕ → List Part → End → Type 0
IsRemainder society bytes [] Quiet = bytes ≡ []
IsRemainder society bytes [] Closed = ⊥
IsRemainder society bytes [] Bad = IsBad bytes
IsRemainder society bytes [] TooLarge = IsTooLarge bytes
IsRemainder society bytes [] Busy = MayBeBusy society bytes
IsRemainder society bytes (part ∷ []) Closed = IsLast bytes part
IsRemainder society bytes (part ∷ []) Quiet = ⊥
IsRemainder society bytes (part ∷ []) Bad = ⊥
IsRemainder society bytes (part ∷ []) TooLarge = ⊥
IsRemainder society bytes (part ∷ []) Busy = ⊥
IsRemainder society bytes (part ∷ other ∷ parts) end = ⊥

-- the bytes are these requests to the office of a society in this order, with this end; Busy says that memory was refused while a further one was read
abbrev pub ReadsAsRequests : ℕ → List ℕ → List Part → End → Type 0
ReadsAsRequests society bytes parts end =
    (front : List Part) × (last : List Part) × (rest : List ℕ)
    × (parts ≡ front ++ last) × Cuts bytes front rest × IsRemainder society rest last end

-- two readings of the same bytes as requests are one; a refusal of memory, which bytes do not tell, stays out of it
abbrev pub IsCutOneWay : Type 0
IsCutOneWay =
    (society : ℕ) (bytes : List ℕ) (parts others : List Part) (end other : End) → ReadsAsRequests society bytes parts end → ReadsAsRequests society bytes others other
    → end ≢ Busy → other ≢ Busy → (parts ≡ others) × (end ≡ other)
