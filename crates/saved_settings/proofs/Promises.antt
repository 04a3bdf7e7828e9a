-- The theorems about saved settings, put together. Assumes nothing.
use Rattle.saved_settings.specs.Promises.{Promises}
use Rattle.saved_settings.proofs.Fields.{rates}
use Rattle.saved_settings.proofs.Witnesses.{witnesses}
use Rattle.saved_settings.proofs.Rounds.{first, second_back, unknown, first_again, second_again}
use Rattle.saved_settings.proofs.Buffers.{store_loads, load_stores}

pub all_kept : Promises
all_kept =
    record {
      first = λ reader s rest x. first reader s rest x.word x.may;
      second = λ s rest x. second_back s rest x.word x.pitch_word x.may;
      unknown = unknown;
      first_again = λ reader s bytes x. first_again reader s bytes x.small x.shown;
      second_again = λ reader s bytes x. second_again reader s bytes x.small x.shown;
      rates = rates;
      store_loads = λ version s buffer x. store_loads version s buffer x.word x.pitch_word x.takes;
      load_stores = λ reader version s bytes buffer x. load_stores reader version s bytes buffer x.small x.known x.shown x.room;
      witnesses = witnesses;
    }
