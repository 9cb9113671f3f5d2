-- What is computed of the packets, and of the pipe out to the camera: proofs/PortExamples.antt has its one value.
-- Assumes nothing.
use Rattle.port_examples.specs.Packets.{Packets}
use Rattle.port_examples.specs.Acknowledgements.{Acknowledgements}
use Rattle.port_examples.specs.PipeOut.{PipeOut}

pub record PortExamples : Type 0 where
  pub packets : Packets
  pub acknowledgements : Acknowledgements
  pub pipe_out : PipeOut
