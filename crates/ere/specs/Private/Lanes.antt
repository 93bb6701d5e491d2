-- Vectors of sixteen bytes.
use Rattle.std.specs.Prelude.{◌≡◌, ℕ, ◌<◌, List, length, slice_index}

-- The vector has sixteen lanes, and lane k holds `value k`.
pub record HasLanes (lanes : List ℕ) (value : ℕ → ℕ) : Type 0 where
  pub long : length lanes ≡ 16
  pub each : (k : ℕ) → k < 16 → slice_index lanes k ≡ value k
