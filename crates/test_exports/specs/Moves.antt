-- A transport from plain numbers, and as plain numbers.
use Rattle.transport.specs.declared.Transport.{Transport}
use Rattle.test_exports.specs.Answers.{yes, bit}
use Rattle.test_exports.specs.Places.{range_of, plain_range}
use Rattle.test_exports.specs.declared.moves.PlainTransport.{PlainTransport}

abbrev pub transport_of : PlainTransport → Transport
transport_of t = record {
  position = t.position;
  loop_region = range_of t.loop_region;
  playing = yes t.playing;
}

abbrev pub plain_transport : Transport → PlainTransport
plain_transport t = record {
  position = t.position;
  loop_region = plain_range t.loop_region;
  playing = bit t.playing;
}

-- all zeros: the result if a move's requirement is not met
abbrev pub nowhere : PlainTransport
nowhere = record { position = 0; loop_region = record { given = 0; start = 0; end = 0 }; playing = 0 }
