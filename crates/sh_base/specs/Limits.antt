-- The limits on grids and texts; those on ranks and cells stand with shapes.
use Rattle.std.specs.Prelude.{ℕ}

-- the greatest number of axes of a grid
abbrev pub max_axes : ℕ
max_axes = 4

-- the greatest number of devices of a grid
abbrev pub max_devices : ℕ
max_devices = 1024

-- the most bytes of a text
abbrev pub max_bytes : ℕ
max_bytes = 16777216
