-- The theorems about a half's bytes, put together. Assumes nothing.
use mathlib.Core.Path.{◌≡◌, refl, sym, ap, ◌∙◌}
use mathlib.Core.Bool.{true}
use Prim.Native.Nat.{ℕ, zero, suc, ◌<◌}
use native.Mathlib.Omega.{arith}
use mathlib.Core.List.{[], append-nil}
use lib.ListN.{get_or, replicate}
use Rattle.saved_loops.specs.Records.{well_formed, well_formed_slots, encoded, loaded}
use Rattle.saved_loops.specs.Promises.{no_words, no_names, Witnesses, Promises}
use Rattle.saved_loops.proofs.Rounds.{encoded_small, shown_again, store_loads, load_stores}

zeros : (n i k : ℕ) → get_or (replicate n 0) i 0 < suc k
zeros zero i k = omega arith
zeros (suc n) zero k = omega arith
zeros (suc n) (suc i) k = zeros n i k

no_loops : well_formed no_words ≡ true
unfolding well_formed_slots
no_loops = refl

witnesses : Witnesses
unfolding well_formed_slots
witnesses =
    record {
      store_loads = record { nineteen = refl; words = λ i. zeros 19 i 18446744073709551615; small = λ i. zeros 512 i 255; takes = refl };
      load_stores =
          record {
            small = encoded_small no_words no_names (λ i. zeros 512 i 255);
            shows = ap loaded (sym (append-nil (encoded no_words no_names))) ∙ shown_again no_words no_names [] refl (λ i. zeros 19 i 18446744073709551615) (λ i. zeros 512 i 255) no_loops refl;
            room = omega arith;
          };
    }

pub all_kept : Promises
all_kept =
    record {
      store_loads = store_loads;
      load_stores = λ ws bytes buffer x. load_stores ws bytes x.small buffer x.shows x.room;
      witnesses = witnesses;
    }
