-- A field of the links of a list as a column of 64 places.
use Rattle.std.specs.Prelude.{◌≡◌, List, ◌++◌, map, ℕ, take, replicate}
use Rattle.std.specs.Fn.{FnReturnsAt}
use denote.Param.Members.{Shared}
use denote.Ref.{Bor}
use Rattle.units.specs.declared.Link.{Link}
use Rattle.units.specs.Limits.{most_links}

-- a field of the first 64 links of a list, zero past the last
unfoldable pub column : (Link → ℕ) → List Link → List ℕ
column field links = take most_links (map field links ++ replicate most_links 0)

-- each call gives that field of its link
abbrev pub Reads : {F : Type 0} → Shared F (Bor Link × Unit {0}) ℕ → F → (Link → ℕ) → Type 0
Reads calls read field = (link : Link) (value : ℕ) → FnReturnsAt calls read link value → value ≡ field link
