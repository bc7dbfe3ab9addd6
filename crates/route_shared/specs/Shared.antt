-- What two lists of answers share on a code.
use Rattle.std.specs.Prelude.{ℕ, List}
use Rattle.route_list.specs.Listing.{saturated}
use Rattle.route_laws.specs.Shared.{shared}
use Rattle.code_flat.specs.Machine.{code_route}

-- "for two answer lists of any kind, the length of the longest beginning that their routes share"; "A length above 18,446,744,073,709,551,615 is given
-- as that number."
abbrev pub shared_entries : List ℕ → List ℕ → List ℕ → ℕ
shared_entries C qs ps = saturated (shared (code_route C qs).list (code_route C ps).list)
