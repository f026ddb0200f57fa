-- Calls of a stream that are made again: those before the last one changed nothing.
use Rattle.std.proofs.Common.{◌≡◌, ◌<◌, ℕ, List, ◌++◌, length, take, subst}
use Rattle.std.specs.Prelude.{Option, None, Some}
use Rattle.std.specs.Io.KnownBytes.{Keeps, Appends, Consumes, IsAtEnd}

consumes_then : (a b c : Option (List ℕ)) (bs : List ℕ) → Keeps a b → Consumes b c bs → Consumes a c bs
consumes_then None b c bs kept took = tt
consumes_then (Some x) None c bs kept took = absurd kept
consumes_then (Some x) (Some y) None bs kept took = absurd took
consumes_then (Some x) (Some y) (Some z) bs kept took = subst (λ all. all ≡ bs ++ z) kept took

pub appends_then : (a b c : Option (List ℕ)) (bs : List ℕ) → Keeps a b → Appends b c bs → Appends a c bs
appends_then None b c bs kept put = tt
appends_then (Some x) None c bs kept put = absurd kept
appends_then (Some x) (Some y) None bs kept put = absurd put
appends_then (Some x) (Some y) (Some z) bs kept put = subst (λ all. z ≡ all ++ bs) kept put

pub read_then : (a b c : Option (List ℕ)) (n : ℕ) (buf : List ℕ) → Keeps a b →
    Consumes b c (take n buf) × (n ≡ 0 → 0 < length buf → IsAtEnd c) → Consumes a c (take n buf) × (n ≡ 0 → 0 < length buf → IsAtEnd c)
read_then a b c n buf kept took = (consumes_then a b c (take n buf) kept took.0, took.1)
