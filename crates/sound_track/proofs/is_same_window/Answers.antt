-- `is_same_window`: the count, and each entry.
use Rattle.sound_track.proofs.Same.{window_is}
use Rattle.sound_track.proofs.is_same_window.Goals as goal

pub returns-clause-a_value : goal.returns-clause-a_value
returns-clause-a_value c =
    let a = c.args in
    λ t.
    window_is a.a a.b _ _ _ _ c.requires.frames_len c.requires.frames_len_2 c.is_same_entry.ensures.a_value c.is_same_entry-2.ensures.a_value c.is_same_entry-3.ensures.a_value c.is_same_entry-4.ensures.a_value t
