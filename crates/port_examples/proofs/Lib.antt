pub mod Packets
pub mod Acknowledgements
pub mod PipeOut
pub mod PortExamples
