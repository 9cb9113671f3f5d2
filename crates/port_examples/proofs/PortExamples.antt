-- All of them are as expected.
-- Assumes nothing.
use Rattle.port_examples.specs.PortExamples.{PortExamples}
use Rattle.port_examples.proofs.Packets.{all_packets}
use Rattle.port_examples.proofs.Acknowledgements.{all_acknowledgements}
use Rattle.port_examples.proofs.PipeOut.{pipe_out}

pub port_examples : PortExamples
port_examples = record { packets = all_packets; acknowledgements = all_acknowledgements; pipe_out = pipe_out }
