-- A set of tiles. Assumes nothing.
use Rattle.std.specs.Prelude.{◌≡◌, ℕ, ◌/◌, ◌%◌, ◌^◌, Bool, ◌==◌}
use Rattle.grid.specs.declared.tiles.TileSet.{TileSet}

-- binary digit k of a number is 1
unfoldable pub bit : ℕ → ℕ → Bool
bit m k = m / 2 ^ k % 2 == 1

-- the set has the tile
abbrev pub has_tile : TileSet → ℕ → Bool
has_tile s tile = bit s.bits tile

-- the tiles of the set are those that pass the test, and no others
abbrev pub Exactly : TileSet → (ℕ → Bool) → Type 0
Exactly s f = (tile : ℕ) → has_tile s tile ≡ f tile
