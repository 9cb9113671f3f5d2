-- The byte pipe: from the camera to the aircraft, and from the aircraft to the camera.
use Rattle.std.specs.Prelude.{Bool, ◌&&◌}
use Rattle.pipe.specs.declared.Pipe.{Pipe}
use Rattle.pipe.specs.Input.{fresh_input, sound_input}
use Rattle.pipe.specs.Output.{fresh_output, sound_output}

-- "no gathered bytes, timeouts 0", and nothing in hand: from power and after Initialise
unfoldable pub fresh_pipe : Pipe
fresh_pipe = record { input = fresh_input; output = fresh_output }

-- "0 to 7 bytes gathered; timeouts 0 to 15", and "0 to 8 bytes in hand, and output timeouts 0 to 15"
unfoldable pub sound_pipe : Pipe → Bool
sound_pipe p = sound_input p.input && sound_output p.output
