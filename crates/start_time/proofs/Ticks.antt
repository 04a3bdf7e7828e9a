-- Now minus due, wrapped: it is the only number in the range such that due plus it wraps to now. So moving both ticks changes nothing.
-- Assumes nothing.
use Rattle.std.proofs.Common.{◌≡◌, ℕ, ◌+◌, ◌-◌, ◌%◌, ◌<◌, ◌≤◌, ltb, sym, ap, ◌∙◌, le_of_lt, add_assoc, mod-lt, mod-eq_of_lt, add-sub_of_le, arith}
use native.Mathlib.Nat.{mod-add-mod, add-mod-mod, add-mod_right}
use Rattle.start_time.specs.Ticks.{tick_range, half, reached}

module _ (m : ℕ) where
  -- adding the rest of the range undoes an addition with wrapping
  undone : (x b : ℕ) → x < m → b ≤ m → ((x + b) % m + (m - b)) % m ≡ x
  undone x b h k =
      mod-add-mod (x + b) m (m - b) ∙ ap (λ (n : ℕ). n % m) (add_assoc x b (m - b) ∙ ap (λ (n : ℕ). x + n) (add-sub_of_le k))
      ∙ add-mod_right x m ∙ mod-eq_of_lt h

  -- the difference, added to due, wraps to now
  wrapped : (due now : ℕ) → due < m → now < m → ((now + (m - due)) % m + due) % m ≡ now
  wrapped due now h k =
      mod-add-mod (now + (m - due)) m due ∙ ap (λ (n : ℕ). n % m) (back now due m h) ∙ add-mod_right now m ∙ mod-eq_of_lt k
    where
      back : (x d n : ℕ) → d < n → x + (n - d) + d ≡ x + n
      back x d n l = omega arith

  -- and is the only number in the range that does
  only : (r due now : ℕ) → r < m → due < m → (r + due) % m ≡ now → r ≡ (now + (m - due)) % m
  only r due now h k e = sym (undone r due h (le_of_lt k)) ∙ ap (λ (n : ℕ). (n + (m - due)) % m) e

  moved : (due now k : ℕ) → 0 < m → due < m → now < m → ((now + k) % m + (m - (due + k) % m)) % m ≡ (now + (m - due)) % m
  moved due now k p h l =
      let r = (now + (m - due)) % m in
      sym
      (only r ((due + k) % m) ((now + k) % m) (mod-lt (now + (m - due)) p) (mod-lt (due + k) p)
      (add-mod-mod r (due + k) m ∙ ap (λ (n : ℕ). n % m) (sym (add_assoc r due k)) ∙ sym (mod-add-mod (r + due) m k)
      ∙ ap (λ (n : ℕ). (n + k) % m) (wrapped due now h l)))

-- moving both by the same amount, wrapped or not, changes nothing
pub reached_moved : (due now k : ℕ) → due < tick_range → now < tick_range → reached ((due + k) % tick_range) ((now + k) % tick_range) ≡ reached due now
reached_moved due now k h l = ap (λ (n : ℕ). ltb n half) (moved tick_range due now k (omega arith) h l)
