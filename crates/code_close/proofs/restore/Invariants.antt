use Rattle.std.proofs.Common.{◌-◌, ◌≡◌, ◌≤◌, ◌<◌, ◌⊎◌, length, get_or}
use Prim.Native.Nat.{ℕ}
use Rattle.code_close.proofs.restore.Given as goal

abbrev pub invariant-loop-x : goal.invariant-loop-x
invariant-loop-x l = record {
  same : length l.code ≡ length l.initial.code;
  low : l.from ≤ l.x;
  high : (l.x ≤ l.to) ⊎ (l.x ≡ l.from);
  inside : (y : ℕ) → l.from ≤ y → y < l.x → get_or l.code y 0 ≡ get_or l.saved (y - l.from) 0;
  outside : (y : ℕ) → (y < l.from) ⊎ (l.x ≤ y) → get_or l.code y 0 ≡ get_or l.initial.code y 0;
}
